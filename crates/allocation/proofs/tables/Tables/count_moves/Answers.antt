use Rattle.std.proofs.Common.{map, length, drop, ◌+◌, sym, ap, subst, arith}
use Rattle.allocation.specs.Allocations.{line_at, moves_in}
use Rattle.allocation.specs.Lines.{lines_moves}
use Rattle.allocation.specs.Ranges.{row_at, RowsFit}
use Rattle.allocation.proofs.LineCounts.{ordered, left_more}
use Rattle.allocation.proofs.tables.Tables.count_moves.Goals as goal

pub loop-row-preserved : goal.loop-row-preserved
loop-row-preserved c =
    let t = c.args.self.now in
    let at = c.loop-row.row-index in
    let rows = c.deref-row-items.result.now in
    let same = c.deref-row-items.ensures.value in
    let fit = subst (RowsFit t.heading.registers (length (moves_in t))) (sym same) t.rows_fit in
    let o = ordered t.heading.registers _ (row_at rows at) (fit at (omega arith)) in
    let here = ap (λ xs. lines_moves (map (line_at (moves_in t)) (drop at xs))) same in
    let next = ap (λ xs. lines_moves (map (line_at (moves_in t)) (drop (at + 1) xs))) same in
    (omega (arith, c.loop-row.invariant.0, here, next, left_more t.heading.registers (moves_in t) rows at (omega arith) fit), omega (arith, c.loop-row.invariant.1, o.end, t.few_moves, t.move_len))
