-- How many moves are published.
use Rattle.std.proofs.Common.{ℕ, zero, suc, ◌+◌, ◌-◌, ◌*◌, ◌≤◌, Bool, true, false, cond, ◌&&◌, ◌||◌, eqb, ltb, List, [], ◌∷◌, map, length, sym, subst, arith}
use Rattle.std.proofs.lemmas.List.{length-append, get_or-map}
use Rattle.source.specs.Nodes.{node_at}
use Rattle.source.specs.declared.node.Node.{Node}
use Rattle.source.specs.declared.node.Node.TheVariants.{Const, Mov, Binary, Call, Branch, Return}
use Rattle.allocation.specs.Allocations.{Line}
use Rattle.allocation.specs.Lines.{line_moves, lines_moves}
use Rattle.allocation.specs.declared.line.Move.{Move}
use Rattle.places.specs.Places.{locations}
use Rattle.places.specs.Publish.{◌⇐◌, bring, bring_two, send, ins_of, published_line, entry_moves, published_allocation}
use Rattle.places.specs.Laws.{PublishedLinesFew}

pub one_at_most : (b : Bool) (m : Move) → length (cond b [] (m ∷ [])) ≤ 1
one_at_most true m = omega arith
one_at_most false m = omega arith

two_at_most : (a b : Bool) (x y z : Move) → length (cond a [] (cond b (x ∷ []) (y ∷ z ∷ []))) ≤ 2
two_at_most true b x y z = omega arith
two_at_most false true x y z = omega arith
two_at_most false false x y z = omega arith

module _ (R : ℕ) (place : ℕ → ℕ) where
  two_few : (l m : ℕ) → length (bring_two R l m) ≤ 2
  two_few l m = omega (arith, length-append (bring R (R - 2) l) (bring R (R - 1) m), one_at_most (ltb l R) ((R - 2) ⇐ l), one_at_most (ltb m R) ((R - 1) ⇐ m))

  send_few : (l : ℕ) → length (send R l) ≤ 1
  send_few l = one_at_most (ltb l R) (l ⇐ (R - 2))

  pub ins_few : (node : Node) → length (ins_of R place node) ≤ 2
  ins_few (Const d k next) = omega arith
  ins_few (Mov d a next) = omega arith
  ins_few (Binary o d a b next) = two_few (place a) (place b)
  ins_few (Call d h a b next) = two_few (place a) (place b)
  ins_few (Branch c a b taken other) = two_few (place a) (place b)
  ins_few (Return a) = omega (arith, one_at_most (ltb (place a) R) ((R - 2) ⇐ place a))

  pub node_few : (node : Node) → line_moves (published_line R place node) ≤ 3
  node_few (Const d k next) = omega (arith, send_few (place d))
  node_few (Mov d a next) = omega (arith, two_at_most (eqb (place d) (place a)) (ltb (place d) R || ltb (place a) R) (place d ⇐ place a) ((R - 2) ⇐ place a) (place d ⇐ (R - 2)))
  node_few (Binary o d a b next) = omega (arith, send_few (place d), two_few (place a) (place b))
  node_few (Call d h a b next) = omega (arith, send_few (place d), two_few (place a) (place b))
  node_few (Branch c a b taken other) = omega (arith, two_few (place a) (place b))
  node_few (Return a) = omega (arith, one_at_most (ltb (place a) R) ((R - 2) ⇐ place a))

  pub lines_few : (nodes : List Node) → lines_moves (map (published_line R place) nodes) ≤ 3 * length nodes
  lines_few [] = omega arith
  lines_few (n ∷ ns) = omega (arith, node_few n, lines_few ns)

  pub entry_few : (live : ℕ → Bool) (i k : ℕ) → length (entry_moves R place live i k) ≤ k
  entry_few live i zero = omega arith
  entry_few live i (suc k) = go (live i && ltb (place i) R) (entry_moves R place live (suc i) k) (entry_few live (suc i) k)
    where
      go : (b : Bool) (ms : List Move) → length ms ≤ k → length (cond b ((place i ⇐ (R + i)) ∷ ms) ms) ≤ suc k
      go true ms h = omega arith
      go false ms h = omega arith

pub published_lines_few : PublishedLinesFew
published_lines_few s L R ps h =
    (record { entry = omega (arith, few); line = λ n lt. subst (λ (l : Line). line_moves l ≤ 3) (sym (get_or-map (published_line R (locations R ps)) s.nodes n (Const 0 0 0) _ lt)) (node_few R (locations R ps) (node_at s.nodes n)) }, omega (arith, few, lines_few R (locations R ps) s.nodes))
  where
    few : length (published_allocation s L R ps).entry ≤ s.parameters
    few = entry_few R (locations R ps) (L 0) 0 s.parameters
