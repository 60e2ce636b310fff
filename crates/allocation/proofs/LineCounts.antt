-- How many moves the rows of a table have.
use Rattle.std.proofs.Common.{◌≡◌, ℕ, ◌+◌, ◌-◌, ◌<◌, ◌≤◌, true, leb, List, map, length, drop, ap, ◌∙◌, arith}
use Rattle.std.specs.List.{between}
use Rattle.std.proofs.lemmas.List.{length-take-le, length-drop, drop_more}
use Rattle.std.proofs.lemmas.Bool.{and_parts, leb-true}
use Rattle.allocation.specs.declared.line.Move.{Move}
use Rattle.allocation.specs.declared.line.Row.{Row}
use Rattle.allocation.specs.Ranges.{main_line_fits, row_fits, row_at, RowsFit}
use Rattle.allocation.specs.Allocations.{line_at}
use Rattle.allocation.specs.Lines.{line_moves, lines_moves}

-- the places of a row that fits are in order
pub record Ordered (len : ℕ) (row : Row) : Type 0 where
  pub ins : row.ins ≤ row.outs
  pub outs : row.outs ≤ row.alts
  pub alts : row.alts ≤ row.end
  pub end : row.end ≤ len

pub ordered : (r len : ℕ) (row : Row) → row_fits r len row ≡ true → Ordered len row
ordered r len row h =
    let a = and_parts (main_line_fits r row.main) _ h in
    let b = and_parts (leb row.ins row.outs) _ a.1 in
    let c = and_parts (leb row.outs row.alts) _ b.1 in
    let d = and_parts (leb row.alts row.end) _ c.1 in
    record { ins = leb-true row.ins row.outs b.0; outs = leb-true row.outs row.alts c.0; alts = leb-true row.alts row.end d.0; end = leb-true row.end len d.1 }

length_between : {X : Type 0} (a b : ℕ) (xs : List X) → a ≤ b → b ≤ length xs → length (between a b xs) ≡ b - a
length_between a b xs l k = length-take-le (b - a) (drop a xs) (omega (arith, length-drop a xs))

module _ (r : ℕ) (moves : List Move) where
  pub line_long : (row : Row) → row_fits r (length moves) row ≡ true → line_moves (line_at moves row) ≡ row.end - row.ins
  line_long row h =
      let o = ordered r (length moves) row h in
      omega (arith, o.ins, o.outs, o.alts, o.end, length_between row.ins row.outs moves o.ins (omega (arith, o.outs, o.alts, o.end)), length_between row.outs row.alts moves o.outs (omega (arith, o.alts, o.end)), length_between row.alts row.end moves o.alts o.end)

  -- what is left gives the rest
  pub left_more : (rows : List Row) (i : ℕ) → i < length rows → RowsFit r (length moves) rows → lines_moves (map (line_at moves) (drop i rows)) ≡ ((row_at rows i).end - (row_at rows i).ins) + lines_moves (map (line_at moves) (drop (i + 1) rows))
  left_more rows i l h =
      ap (λ xs. lines_moves (map (line_at moves) xs)) (drop_more rows i _ l)
      ∙ ap (λ k. k + lines_moves (map (line_at moves) (drop (i + 1) rows))) (line_long (row_at rows i) (h i l))
