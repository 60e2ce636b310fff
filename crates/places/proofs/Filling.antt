-- The loops that fill tables.
use Rattle.std.proofs.Common.{◌≡◌, ℕ, zero, suc, ◌+◌, ◌*◌, ◌<◌, ◌≤◌, Bool, true, false, cond, ◌&&◌, ltb, List, [], ◌∷◌, ◌++◌, map, length, take, sym, refl, ap, ◌∙◌, subst, add-one, arith}
use Rattle.std.proofs.lemmas.List.{length-append, length-map, length-take-le, take-append-le, map_more}
use Rattle.source.specs.Nodes.{node_at}
use Rattle.source.specs.declared.node.Node.{Node}
use Rattle.source.specs.declared.node.Node.TheVariants.{Const}
use Rattle.allocation.specs.Allocations.{Line, rows_in, moves_in, allocation_of, line_at}
use Rattle.allocation.specs.Lines.{line_moves, lines_moves}
use Rattle.allocation.specs.declared.heading.Heading.{Heading}
use Rattle.allocation.specs.declared.line.Move.{Move}
use Rattle.allocation.specs.declared.tables.Tables.{Tables}
use Rattle.places.specs.declared.layout.Layout.{Layout}
use Rattle.places.specs.Publish.{◌⇐◌, published_line, entry_moves}
use Rattle.places.specs.Steps.{Added, Lined, Filled, Open}
use Rattle.places.proofs.Adding.{added_two, still_open}
use Rattle.places.proofs.Count.{lines_few, entry_few}

-- the entry moves of one more parameter

module _ (R : ℕ) (place : ℕ → ℕ) (live : ℕ → Bool) where
  entry_more : (i k j : ℕ) → j ≡ i + k → entry_moves R place live i (suc k) ≡ entry_moves R place live i k ++ entry_moves R place live j 1
  entry_more i zero j e = ap (λ x. entry_moves R place live x 1) (omega arith)
  entry_more i (suc k) j e = go (live i && ltb (place i) R) (entry_moves R place live (suc i) (suc k)) (entry_moves R place live (suc i) k) (entry_moves R place live j 1) (entry_more (suc i) k j (omega arith))
    where
      go : (b : Bool) (xs ys zs : List Move) → xs ≡ ys ++ zs → cond b ((place i ⇐ (R + i)) ∷ xs) xs ≡ cond b ((place i ⇐ (R + i)) ∷ ys) ys ++ zs
      go true xs ys zs q = ap (λ z. (place i ⇐ (R + i)) ∷ z) q
      go false xs ys zs q = q

  pub entry_open : (t u : Tables) (y : Layout) (P i : ℕ) → Open t y P → Added t u (entry_moves R place live 0 i) → i < P → Open u y 1
  entry_open t u y P i o a h = still_open t u y P 1 (entry_moves R place live 0 i) o a (omega (arith, entry_few R place live 0 i))

  pub entry_step : (t u w : Tables) (i : ℕ) → Added t u (entry_moves R place live 0 i) → Added u w (entry_moves R place live i 1) → Added t w (entry_moves R place live 0 (i + 1))
  entry_step t u w i a b = subst (λ (ms : List Move). Added t w ms) (sym (ap (entry_moves R place live 0) (add-one i) ∙ entry_more 0 i i (omega arith))) (added_two t u w _ _ a b)

-- the lines of one more node

lines_moves-push : (ls : List Line) (l : Line) → lines_moves (ls ++ l ∷ []) ≡ lines_moves ls + line_moves l
lines_moves-push [] l = omega arith
lines_moves-push (x ∷ ls) l = omega (arith, lines_moves-push ls l)

pub filled_more : (t u w : Tables) (ls : List Line) (line : Line) → line.alts ≡ [] → Filled t u ls → Lined u w line → Filled t w (ls ++ line ∷ [])
filled_more t u w ls line no-alts f l =
    record { heading = l.heading ∙ f.heading; entry = l.entry ∙ f.entry; lines = l.lines ∙ ap (λ z. z ++ line ∷ []) f.lines; front = ap (take (length (moves_in t))) l.moves ∙ (take-append-le (length (moves_in t)) (moves_in u) (line.ins ++ line.outs) (omega (arith, f.count)) ∙ f.front); count = omega (arith, f.count, ap length l.moves, length-append (moves_in u) (line.ins ++ line.outs), length-append line.ins line.outs, lines_moves-push ls line, ap length no-alts) }

module _ (R : ℕ) (place : ℕ → ℕ) (nodes : List Node) (t u : Tables) (i : ℕ) (f : Filled t u (map (published_line R place) (take i nodes))) where
  pub nodes_open : (y : Layout) → Open t y (3 * length nodes + 1) → i < length nodes → Open u y 4
  nodes_open y o h =
      record { registers = ap (λ x. x.registers) f.heading ∙ o.registers; slots = ap (λ x. x.slots) f.heading ∙ o.slots; room = omega (arith, f.count, lines_few R place (take i nodes), length-take-le i nodes (omega arith), o.room) }

  pub nodes_room : i < length nodes → length nodes ≤ 256 → length (rows_in u) < 256
  nodes_room h k = omega (arith, length-map (rows_in u) (line_at (moves_in u)), ap length f.lines, length-map (take i nodes) (published_line R place), length-take-le i nodes (omega arith))

  pub nodes_step : (w : Tables) → i < length nodes → Lined u w (published_line R place (node_at nodes i)) → Filled t w (map (published_line R place) (take (i + 1) nodes))
  nodes_step w h l = subst (λ (ls : List Line). Filled t w ls) (sym (map_more (published_line R place) nodes i (Const 0 0 0) h)) (filled_more t u w _ _ refl f l)

-- the whole: tables with the entry moves es alone, and then the lines of the nodes

pub record Begun (h : Heading) (es : List Move) (t : Tables) : Type 0 where
  pub heading : t.heading ≡ h
  pub moves : moves_in t ≡ es
  pub entry : t.entry ≡ length es

-- emptied tables, to which the entry moves are added
pub begun : (h : Heading) (es : List Move) (a b c : Tables) → a.heading ≡ h → moves_in a ≡ [] → Added a b es → c.heading ≡ b.heading → moves_in c ≡ moves_in b → c.entry ≡ length (moves_in b) → Begun h es c
begun h es a b c heading moves added heading' moves' entry' =
    let all = added.moves ∙ ap (λ ms. ms ++ es) moves in
    record { heading = heading' ∙ (added.heading ∙ heading); moves = moves' ∙ all; entry = entry' ∙ ap length all }

module _ (h : Heading) (es : List Move) (c : Tables) (b : Begun h es c) where
  pub begun_open : (y : Layout) (k : ℕ) → h.registers ≡ y.registers → h.slots ≡ length y.places.now → length es + k ≤ 1024 → Open c y k
  begun_open y k registers slots room = record { registers = ap (λ x. x.registers) b.heading ∙ registers; slots = ap (λ x. x.slots) b.heading ∙ slots; room = omega (arith, ap length b.moves) }

  module _ (d : Tables) (ls : List Line) (f : Filled c d ls) where
    entry_taken : take d.entry (moves_in d) ≡ es
    entry_taken = ap (λ n. take n (moves_in d)) (f.entry ∙ b.entry ∙ ap length (sym b.moves)) ∙ (f.front ∙ b.moves)

    pub whole : allocation_of d ≡ record { registers = h.registers; slots = h.slots; entry = es; lines = ls }
    whole = let p = f.heading ∙ b.heading in let q = entry_taken in let r = f.lines in λ j. record { registers = (p j).registers; slots = (p j).slots; entry = q j; lines = r j }

    pub whole-count : length (moves_in d) ≡ length es + lines_moves ls
    whole-count = f.count ∙ ap (λ n. n + lines_moves ls) (ap length b.moves)
