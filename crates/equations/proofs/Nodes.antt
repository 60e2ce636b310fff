-- Nodes: their operands and edges, and the set after one.
use Rattle.std.proofs.Common.{◌≡◌, ℕ, ◌<◌, ◌≤◌, Bool, true, false, cond, ◌||◌, ◌⊎◌, List, [], ◌∷◌, length, sym, refl, ap, ◌∙◌, subst, inl, inr, arith}
use mathlib.Core.Path.{fun_ext}
use Rattle.std.specs.List.{AllByRecursion}
use Rattle.sets.specs.Masks.{any, Below}
use Rattle.source.specs.Nodes.{operands, edges, successor, Sound, AllSound, node_at}
use Rattle.source.proofs.Soundness.{all_sound}
use Rattle.source.specs.declared.node.Operation.{Operation}
use Rattle.source.specs.declared.node.Condition.{Condition}
use Rattle.source.specs.declared.node.Node.{Node}
use Rattle.source.specs.declared.node.Node.TheVariants.{Const, Mov, Binary, Call, Branch, Return}
use Rattle.allocation.specs.Allocations.{Line}
use Rattle.equations.specs.Equations.{back_moves, after}
use Rattle.equations.specs.Steps.{either}

pub operands-below : (v n : ℕ) (node : Node) → Sound v n node → Below v (operands node)
operands-below v n (Const d k next) s = tt
operands-below v n (Mov d a next) s = (s.1, tt)
operands-below v n (Binary o d a b next) s = (s.1, (s.2, tt))
operands-below v n (Call d h a b next) s = (s.2, (s.3, tt))
operands-below v n (Branch c a b taken other) s = (s.0, (s.1, tt))
operands-below v n (Return a) s = (s, tt)

-- a node stays sound among more temporaries and more nodes
pub sound_wider : (v w n m : ℕ) → v ≤ w → n ≤ m → (node : Node) → Sound v n node → Sound w m node
sound_wider v w n m h g (Const d k next) s = (omega (arith, s.0), s.1, omega (arith, s.2))
sound_wider v w n m h g (Mov d a next) s = (omega (arith, s.0), omega (arith, s.1), omega (arith, s.2))
sound_wider v w n m h g (Binary o d a b next) s = (omega (arith, s.0), omega (arith, s.1), omega (arith, s.2), omega (arith, s.3))
sound_wider v w n m h g (Call d f a b next) s = (omega (arith, s.0), s.1, omega (arith, s.2), omega (arith, s.3), omega (arith, s.4))
sound_wider v w n m h g (Branch c a b taken other) s = (omega (arith, s.0), omega (arith, s.1), omega (arith, s.2), omega (arith, s.3))
sound_wider v w n m h g (Return a) s = omega arith

pub sound_more : (v m : ℕ) (nodes : List Node) → AllSound v nodes → (i : ℕ) → i < length nodes → length nodes ≤ m → Sound v m (node_at nodes i)
sound_more v m nodes s i h g = sound_wider v v (length nodes) m (omega arith) g (node_at nodes i) (all_sound v nodes s i h)

-- what holds of every edge to a node below n holds of the edges of a sound node
pub edges_all : (v n : ℕ) (node : Node) → Sound v n node → (P : Bool → Type 0) → ((b : Bool) → successor node b < n → P b) → AllByRecursion P (edges node)
edges_all v n (Const d k next) s P f = (f true s.2, tt)
edges_all v n (Mov d a next) s P f = (f true s.2, tt)
edges_all v n (Binary o d a b next) s P f = (f true s.3, tt)
edges_all v n (Call d h a b next) s P f = (f true s.4, tt)
edges_all v n (Branch c a b taken other) s P f = (f true s.2, (f false s.3, tt))
edges_all v n (Return a) s P f = tt

-- a node that goes on to one node alone
abbrev pub Plain : Node → ℕ → Type 0
Plain node next =
    ((d : ℕ) × (k : ℕ) × (node ≡ Const d k next)) ⊎ (((d : ℕ) × (a : ℕ) × (node ≡ Mov d a next))
    ⊎ (((o : Operation) × (d : ℕ) × (a : ℕ) × (b : ℕ) × (node ≡ Binary o d a b next)) ⊎ ((d : ℕ) × (h : ℕ) × (a : ℕ) × (b : ℕ) × (node ≡ Call d h a b next))))

plain_edge : (node : Node) (next : ℕ) → Plain node next → (edges node ≡ true ∷ []) × (successor node true ≡ next)
plain_edge node next (inl p) = (ap edges p.2, ap (λ (x : Node). successor x true) p.2)
plain_edge node next (inr (inl p)) = (ap edges p.2, ap (λ (x : Node). successor x true) p.2)
plain_edge node next (inr (inr (inl p))) = (ap edges p.4, ap (λ (x : Node). successor x true) p.4)
plain_edge node next (inr (inr (inr p))) = (ap edges p.4, ap (λ (x : Node). successor x true) p.4)

pub plain-below : (v n : ℕ) (node : Node) (next : ℕ) → Sound v n node → Plain node next → next < n
plain-below v n node next s p =
    let e = plain_edge node next p in
    let all = subst (AllByRecursion (λ b. successor node b < n)) e.0 (edges_all v n node s (λ b. successor node b < n) (λ b l. l)) in
    subst (λ (k : ℕ). k < n) e.1 all.0

or-none : (x : Bool) → x ≡ (x || false)
or-none true = refl
or-none false = refl

-- the set after a node with one edge, two or none
module _ (X : ℕ → ℕ × ℕ → Bool) (line : Line) (E : ℕ × ℕ → Bool) where
  one : (node : Node) → edges node ≡ true ∷ [] → E ≡ back_moves line.outs (X (successor node true)) → E ≡ after X node line
  unfolding after
  one node is h =
      h ∙ fun_ext (λ (e : ℕ × ℕ). or-none (back_moves line.outs (X (successor node true)) e)
      ∙ ap (λ (bs : List Bool). any (λ b. back_moves (cond b line.outs line.alts) (X (successor node b)) e) bs) (sym is))

  pub after-plain : (node : Node) (next : ℕ) → Plain node next → E ≡ back_moves line.outs (X next) → E ≡ after X node line
  after-plain node next p h = let e = plain_edge node next p in one node e.0 (h ∙ ap (λ (k : ℕ). back_moves line.outs (X k)) (sym e.1))

  pub after_both : (c : Condition) (a b taken other : ℕ) → E ≡ either (back_moves line.outs (X taken)) (back_moves line.alts (X other)) → E ≡ after X (Branch c a b taken other) line
  unfolding after either
  after_both c a b taken other h =
      h ∙ fun_ext (λ (e : ℕ × ℕ). ap (λ (y : Bool). back_moves line.outs (X taken) e || y) (or-none (back_moves line.alts (X other) e)))

  pub after_return : (a : ℕ) → ((e : ℕ × ℕ) → E e ≡ false) → E ≡ after X (Return a) line
  unfolding after
  after_return a h = fun_ext h
