-- What fits goes on to fit when one more is pushed.
use Rattle.std.proofs.Common.{◌≡◌, ℕ, zero, suc, ◌<◌, ◌≤◌, Bool, true, leb, List, [], ◌∷◌, ◌++◌, length, get_or, sym, subst, arith}
use Rattle.std.proofs.lemmas.Bool.{and_parts, and_from, leb-true, le-leb}
use Rattle.allocation.specs.declared.line.Move.{Move}
use Rattle.allocation.specs.declared.line.Row.{Row}
use Rattle.allocation.specs.Ranges.{main_line_fits, row_fits, move_fits, row_at, RowsFit, MovesFit}

tests_push : {X : Type 0} (P : X → Bool) (d : X) (xs : List X) (x : X) → ((n : ℕ) → n < length xs → P (get_or xs n d) ≡ true) → P x ≡ true → (n : ℕ) → n < length (xs ++ x ∷ []) → P (get_or (xs ++ x ∷ []) n d) ≡ true
tests_push P d [] x h k zero l = k
tests_push P d [] x h k (suc n) l = absurd (omega arith)
tests_push P d (y ∷ xs) x h k zero l = h 0 (omega arith)
tests_push P d (y ∷ xs) x h k (suc n) l = tests_push P d xs x (λ m j. h (suc m) (omega arith)) k n (omega arith)

module _ (r : ℕ) where
  pub row_longer : (len more : ℕ) (row : Row) → len ≤ more → row_fits r len row ≡ true → row_fits r more row ≡ true
  row_longer len more row l h =
      let a = and_parts (main_line_fits r row.main) _ h in
      let b = and_parts (leb row.ins row.outs) _ a.1 in
      let c = and_parts (leb row.outs row.alts) _ b.1 in
      let d = and_parts (leb row.alts row.end) _ c.1 in
      and_from _ _ a.0 (and_from _ _ b.0 (and_from _ _ c.0 (and_from _ _ d.0 (le-leb row.end more (omega (arith, leb-true row.end len d.1))))))

  pub rows_longer : (len : ℕ) (rows : List Row) (more : ℕ) → RowsFit r len rows → len ≤ more → RowsFit r more rows
  rows_longer len rows more h l n k = row_longer len more (row_at rows n) l (h n k)

  pub rows-push : (len : ℕ) (rows : List Row) (row : Row) (all : List Row) → RowsFit r len rows → row_fits r len row ≡ true → all ≡ rows ++ row ∷ [] → RowsFit r len all
  rows-push len rows row all h k e = subst (RowsFit r len) (sym e) (tests_push (row_fits r len) _ rows row h k)

  pub moves_push : (s : ℕ) (moves : List Move) (m : Move) (all : List Move) → MovesFit r s moves → move_fits r s m ≡ true → all ≡ moves ++ m ∷ [] → MovesFit r s all
  moves_push s moves m all h k e = subst (MovesFit r s) (sym e) (tests_push (move_fits r s) _ moves m h k)
