-- A row added to tables, behind the moves of its line.
use Rattle.std.proofs.Common.{◌≡◌, ℕ, suc, ◌-◌, ◌≤◌, true, List, [], ◌∷◌, ◌++◌, map, length, take, drop, sym, refl, ap, ◌∙◌, ap₂, append_assoc, append-nil, arith}
use Rattle.std.specs.List.{between}
use Rattle.std.proofs.lemmas.List.{length-append, length-drop, take_at, drop_at, take-append-le, drop-append-le, map-append}
use Rattle.allocation.specs.Allocations.{Line, line_at, rows_in, moves_in}
use Rattle.allocation.specs.Ranges.{row_fits, RowsFit}
use Rattle.allocation.specs.declared.line.Move.{Move}
use Rattle.allocation.specs.declared.line.Row.{Row}
use Rattle.allocation.specs.declared.tables.Tables.{Tables}
use Rattle.allocation.proofs.LineCounts.{ordered}
use Rattle.places.specs.Steps.{Added, Lined}

-- the moves between two moments
between_added : (a x y : List Move) (i e : ℕ) → i ≡ length a → e ≡ length (a ++ x) → between i e ((a ++ x) ++ y) ≡ x
between_added a x y i e p q = ap₂ (λ n m. take n (drop m ((a ++ x) ++ y))) long p ∙ (ap (take (length x)) (ap (drop (length a)) (append_assoc a x y) ∙ drop_at a (x ++ y) (length a) refl) ∙ take_at x y (length x) refl)
  where
    long : e - i ≡ length x
    long = omega (arith, p, q, length-append a x)

between_none : (i : ℕ) (xs : List Move) → between i i xs ≡ []
between_none i xs = let e : i - i ≡ 0 = omega arith in ap (λ k. take k (drop i xs)) e

-- moves behind those of a row leave its line
between_longer : (i j : ℕ) (xs ys : List Move) → i ≤ j → j ≤ length xs → between i j (xs ++ ys) ≡ between i j xs
between_longer i j xs ys h k = ap (take (j - i)) (drop-append-le i xs ys (omega arith)) ∙ take-append-le (j - i) (drop i xs) ys (omega (arith, length-drop i xs))

module _ (r : ℕ) (xs ys : List Move) where
  line_longer : (row : Row) → row_fits r (length xs) row ≡ true → line_at (xs ++ ys) row ≡ line_at xs row
  line_longer row h =
      let o = ordered r (length xs) row h in
      let i = between_longer row.ins row.outs xs ys o.ins (omega (arith, o.outs, o.alts, o.end)) in
      let u = between_longer row.outs row.alts xs ys o.outs (omega (arith, o.alts, o.end)) in
      let a = between_longer row.alts row.end xs ys o.alts o.end in
      λ j. record { ins = i j; main = row.main; outs = u j; alts = a j }

  lines_longer : (rows : List Row) → RowsFit r (length xs) rows → map (line_at (xs ++ ys)) rows ≡ map (line_at xs) rows
  lines_longer [] h = refl
  lines_longer (x ∷ rows) h = ap₂ (λ l ls. l ∷ ls) (line_longer x (h 0 (omega arith))) (lines_longer rows (λ n k. h (suc n) (omega arith)))

module _ (t u w x : Tables) (line : Line) (row : Row) (a : Added t u line.ins) (b : Added u w line.outs) (no-alts : line.alts ≡ []) (r : ℕ) (fit : RowsFit r (length (moves_in t)) (rows_in t)) (heading : x.heading ≡ w.heading) (rows : rows_in x ≡ rows_in w ++ row ∷ []) (moves : moves_in x ≡ moves_in w) (entry : x.entry ≡ w.entry) (m : row.main ≡ line.main) (i : row.ins ≡ length (moves_in t)) (o : row.outs ≡ length (moves_in u)) (l : row.alts ≡ length (moves_in w)) (e : row.end ≡ length (moves_in w)) where
  abbrev A : List Move
  A = moves_in t

  two : moves_in x ≡ (A ++ line.ins) ++ line.outs
  two = moves ∙ (b.moves ∙ ap (λ z. z ++ line.outs) a.moves)

  all : moves_in x ≡ A ++ (line.ins ++ line.outs)
  all = two ∙ append_assoc A line.ins line.outs

  ins_are : between row.ins row.outs (moves_in x) ≡ line.ins
  ins_are = ap (between row.ins row.outs) two ∙ between_added A line.ins line.outs row.ins row.outs i (o ∙ ap length a.moves)

  outs_are : between row.outs row.alts (moves_in x) ≡ line.outs
  outs_are = ap (between row.outs row.alts) (two ∙ sym (append-nil ((A ++ line.ins) ++ line.outs))) ∙ between_added (A ++ line.ins) line.outs [] row.outs row.alts (o ∙ ap length a.moves) (l ∙ ap length (sym moves ∙ two))

  alts_are : between row.alts row.end (moves_in x) ≡ line.alts
  alts_are = ap (λ k. between row.alts k (moves_in x)) (e ∙ sym l) ∙ (between_none row.alts (moves_in x) ∙ sym no-alts)

  line_is : line_at (moves_in x) row ≡ line
  line_is = let p = ins_are in let q = outs_are in let s = alts_are in λ j. record { ins = p j; main = m j; outs = q j; alts = s j }

  pub lined : Lined t x line
  lined =
      record { heading = heading ∙ (b.heading ∙ a.heading); entry = entry ∙ (b.entry ∙ a.entry); lines = ap (map (line_at (moves_in x))) (rows ∙ ap (λ z. z ++ row ∷ []) (b.rows ∙ a.rows)) ∙ (map-append (line_at (moves_in x)) (rows_in t) (row ∷ []) ∙ ap₂ (λ ls k. ls ++ k ∷ []) (ap (λ z. map (line_at z) (rows_in t)) all ∙ lines_longer r A (line.ins ++ line.outs) (rows_in t) fit) line_is); moves = all }
