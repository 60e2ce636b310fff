-- Cells of a frame, and moves made one at a time.
use Rattle.std.proofs.Common.{◌≡◌, ℕ, suc, ◌+◌, ◌<◌, List, [], ◌∷◌, ◌++◌, length, get_or, take, set, sym, refl, ap, ◌∙◌, arith}
use Rattle.std.proofs.lemmas.List.{take_more, length-take-le}
use Rattle.allocation.specs.declared.line.Move.{Move}
use Rattle.values.specs.Kinds.{Arithmetic}
use Rattle.machine.specs.Machine.{Cells, move_one, move_all, write_all}

move_more : {V : Type 0} (K : Arithmetic V) (ms : List Move) (m : Move) (c : Cells V) → move_all K (ms ++ m ∷ []) c ≡ move_one K m (move_all K ms c)
move_more K [] m c = refl
move_more K (k ∷ ms) m c = move_more K ms m (move_one K k c)

-- the moves so far, one at a time
pub moves_step : {V : Type 0} (K : Arithmetic V) (ms : List Move) (i : ℕ) (d : Move) (cs cs' cs'' : List V) (x : V) → i < length ms → ((k : ℕ) → move_all K (take i ms) (record { cells = cs; moves = k }) ≡ record { cells = cs'; moves = k + i }) → x ≡ get_or cs' (get_or ms i d).from (K.constant 0) → cs'' ≡ set cs' (get_or ms i d).to x → (k : ℕ) → move_all K (take (i + 1) ms) (record { cells = cs; moves = k }) ≡ record { cells = cs''; moves = k + (i + 1) }
moves_step {V} K ms i d cs cs' cs'' x h inv e w k =
    let m = get_or ms i d in
    let c : Cells V = record { cells = cs; moves = k } in
    let all : move_all K (take (i + 1) ms) c ≡ move_one K m (move_all K (take i ms) c) = ap (λ l. move_all K l c) (take_more ms i d h) ∙ move_more K (take i ms) m c in
    let one : move_one K m (move_all K (take i ms) c) ≡ move_one K m (record { cells = cs'; moves = k + i }) = ap (move_one K m) (inv k) in
    let n : k + i + 1 ≡ k + (i + 1) = omega arith in
    all ∙ one ∙ (λ j. record { cells = (ap (set cs' m.to) (sym e) ∙ sym w) j; moves = n j })

-- values written one at a time
write_all_more : {V : Type 0} (r : ℕ) (xs : List V) (x : V) (c : List V) → write_all r (xs ++ x ∷ []) c ≡ set (write_all r xs c) (r + length xs) x
write_all_more r [] x c = ap (λ i. set c i x) {x = r} (omega arith)
write_all_more r (y ∷ ys) x c = write_all_more (suc r) ys x (set c r y) ∙ ap (λ i. set (write_all (suc r) ys (set c r y)) i x) {x = suc r + length ys} (omega arith)

pub write_all_step : {V : Type 0} (r : ℕ) (xs c : List V) (i : ℕ) (x : V) → i < length xs → x ≡ get_or xs i x → set (write_all r (take i xs) c) (r + i) x ≡ write_all r (take (i + 1) xs) c
write_all_step r xs c i x h is =
    ap (λ k. set (write_all r (take i xs) c) (r + k) x) (sym (length-take-le i xs (omega arith))) ∙ sym (write_all_more r (take i xs) x c) ∙ ap (λ y. write_all r (take i xs ++ y ∷ []) c) is ∙ ap (λ l. write_all r l c) (sym (take_more xs i x h))
