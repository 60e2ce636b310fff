-- The equations are monotone, and depend on the sets of nodes only.
use Rattle.std.proofs.Common.{◌≡◌, ℕ, ◌<◌, Bool, true, false, not, ◌&&◌, ◌||◌, eqb, List, [], ◌∷◌, length, Some, None, Option, refl, ap, ap₂}
use mathlib.Core.Path.{fun_ext}
use Rattle.std.specs.List.{AllByRecursion}
use Rattle.allocation.specs.Lines.{edge_moves}
use Rattle.sets.specs.Masks.{any, names}
use Rattle.sets.specs.Least.{Within}
use Rattle.sets.proofs.Masks.{or_mono, and_mono}
use Rattle.sets.proofs.Least.{Monotone}
use Rattle.source.specs.Nodes.{operands, edges, successor, node_at, Sound, AllSound}
use Rattle.source.proofs.Soundness.{all_sound}
use Rattle.source.specs.declared.node.Node.{Node}
use Rattle.source.specs.declared.node.Node.TheVariants.{Const, Mov, Binary, Call, Branch, Return}
use Rattle.allocation.specs.Allocations.{Line, target, origins}
use Rattle.allocation.specs.declared.line.Move.{Move}
use Rattle.allocation.specs.declared.line.Main.{Main}
use Rattle.equations.specs.Equations.{back_move, back_moves, renamed, dropped, used, unset, back_main, after, before}
use Rattle.equations.proofs.Nodes.{edges_all}

abbrev pub Sub : (ℕ × ℕ → Bool) → (ℕ × ℕ → Bool) → Type 0
Sub E G = (e : ℕ × ℕ) → E e ≡ true → G e ≡ true

and_mono_right : (p x y : Bool) → (x ≡ true → y ≡ true) → (p && x) ≡ true → (p && y) ≡ true
and_mono_right true x y f e = f e
and_mono_right false x y f e = e

module _ (E G : ℕ × ℕ → Bool) (s : Sub E G) where
  move_mono : (m : Move) → Sub (back_move m E) (back_move m G)
  unfolding back_move
  move_mono m e =
      or_mono (E e && not (eqb e.0 m.to)) (eqb e.0 m.from && E (m.to, e.1)) (G e && not (eqb e.0 m.to)) (eqb e.0 m.from && G (m.to, e.1))
      (and_mono (E e) (not (eqb e.0 m.to)) (G e) (s e)) (and_mono_right (eqb e.0 m.from) (E (m.to, e.1)) (G (m.to, e.1)) (s (m.to, e.1)))

  renamed_mono : (d a : ℕ) → Sub (renamed d a E) (renamed d a G)
  unfolding renamed
  renamed_mono d a e =
      or_mono (E e && not (eqb e.1 d)) (eqb e.1 a && E (e.0, d)) (G e && not (eqb e.1 d)) (eqb e.1 a && G (e.0, d))
      (and_mono (E e) (not (eqb e.1 d)) (G e) (s e)) (and_mono_right (eqb e.1 a) (E (e.0, d)) (G (e.0, d)) (s (e.0, d)))

  dropped_mono : (d m : Option ℕ) → Sub (dropped d m E) (dropped d m G)
  unfolding dropped
  dropped_mono d m e =
      and_mono (E e && not (names d e.1)) (not (names m e.0)) (G e && not (names d e.1)) (and_mono (E e) (not (names d e.1)) (G e) (s e))

  used_mono : (vs rs : List ℕ) → Sub (used vs rs E) (used vs rs G)
  unfolding used
  used_mono [] rs = s
  used_mono (v ∷ vs) [] = s
  used_mono (v ∷ vs) (r ∷ rs) = λ e. or_mono (eqb e.0 r && eqb e.1 v) (used vs rs E e) (eqb e.0 r && eqb e.1 v) (used vs rs G e) (λ h. h) (used_mono vs rs e)

  unset_mono : (node : Node) (main : Main) → Sub (unset node main E) (unset node main G)
  unset_mono (Const d k next) main = dropped_mono (Some d) (target main)
  unset_mono (Mov d a next) main = renamed_mono d a
  unset_mono (Binary o d a b next) main = dropped_mono (Some d) (target main)
  unset_mono (Call d h a b next) main = dropped_mono (Some d) (target main)
  unset_mono (Branch c a b taken other) main = dropped_mono None (target main)
  unset_mono (Return a) main = dropped_mono None (target main)

pub moves_mono : (ms : List Move) (E G : ℕ × ℕ → Bool) → Sub E G → Sub (back_moves ms E) (back_moves ms G)
unfolding back_moves
moves_mono [] E G s = s
moves_mono (m ∷ ms) E G s = move_mono (back_moves ms E) (back_moves ms G) (moves_mono ms E G s) m

main_mono : (node : Node) (main : Main) (E G : ℕ × ℕ → Bool) → Sub E G → Sub (back_main node main E) (back_main node main G)
main_mono node main E G s = used_mono (unset node main E) (unset node main G) (unset_mono E G s node main) (operands node) (origins main)

any_mono_on : {A : Type 0} (p q : A → Bool) (xs : List A) → AllByRecursion (λ x. p x ≡ true → q x ≡ true) xs → any p xs ≡ true → any q xs ≡ true
any_mono_on p q [] f e = e
any_mono_on p q (x ∷ xs) f e = or_mono (p x) (any p xs) (q x) (any q xs) f.0 (any_mono_on p q xs f.1) e

any_same_on : {A : Type 0} (p q : A → Bool) (xs : List A) → AllByRecursion (λ x. p x ≡ q x) xs → any p xs ≡ any q xs
any_same_on p q [] f = refl
any_same_on p q (x ∷ xs) f = ap₂ ◌||◌ f.0 (any_same_on p q xs f.1)

module _ (v N : ℕ) (X Y : ℕ → ℕ × ℕ → Bool) (node : Node) (s : Sound v N node) (line : Line) where
  after_mono : Within N X Y → Sub (after X node line) (after Y node line)
  unfolding after
  after_mono w e =
      any_mono_on (λ b. back_moves (edge_moves line b) (X (successor node b)) e) (λ b. back_moves (edge_moves line b) (Y (successor node b)) e) (edges node)
      (edges_all v N node s _ (λ b l. moves_mono (edge_moves line b) (X (successor node b)) (Y (successor node b)) (w (successor node b) l) e))

  pub before_mono : Within N X Y → Sub (before X node line) (before Y node line)
  before_mono w = moves_mono line.ins _ _ (main_mono node line.main _ _ (after_mono w))

  -- families that agree below N have the same set after a node
  pub after_same : ((n : ℕ) → n < N → (e : ℕ × ℕ) → X n e ≡ Y n e) → after X node line ≡ after Y node line
  unfolding after
  after_same w = fun_ext (λ (e : ℕ × ℕ).
      any_same_on (λ b. back_moves (edge_moves line b) (X (successor node b)) e) (λ b. back_moves (edge_moves line b) (Y (successor node b)) e) (edges node)
      (edges_all v N node s _ (λ b l. ap (λ (E : ℕ × ℕ → Bool). back_moves (edge_moves line b) E e) (fun_ext (w (successor node b) l)))))

pub step_mono : (v : ℕ) (nodes : List Node) (line : ℕ → Line) → AllSound v nodes → Monotone (length nodes) (λ X n. before X (node_at nodes n) (line n))
step_mono v nodes line sound X Y w n l = before_mono v (length nodes) X Y (node_at nodes n) (all_sound v nodes sound n l) (line n) w
