-- A cell written in the second of two rows.
use Rattle.std.proofs.Common.{◌≡◌, ℕ, ◌+◌, ◌-◌, List, ◌++◌, length, set, sym, ap, ◌∙◌, arith}
use Rattle.std.proofs.lemmas.List.{set-append_right}

pub set_right : {X : Type 0} (xs ys : List X) (n i j : ℕ) (y : X) → length xs ≡ n → i ≡ n + j → xs ++ set ys j y ≡ set (xs ++ ys) i y
set_right xs ys n i j y e h = ap (λ k. xs ++ set ys k y) {y = i - n} (omega arith) ∙ sym (set-append_right xs ys n i y e (omega arith))
