use Rattle.std.proofs.Common.{Some, None}
use Rattle.allocation.specs.Allocations.{moves_in}
use Rattle.writer.proofs.Parts.{text_is, rows_join, no_row}
use Rattle.writer.proofs.Putting.{puts_then, puts_none, puts_same, rest_then, rest_none, rest_all}
use Rattle.writer.proofs.put_text.Goals as goal

pub returns-in_err-put_heading : goal.returns-in_err-put_heading
returns-in_err-put_heading g c =
    let o = g.met.S.Sink.in_order in
    rw c.from_residual.ensures
    (puts_same o (text_is c.args.tables.now _ _ c.heading-heading.ensures c.moves.ensures _ _ c.count_entry.ensures c.rows-rows.ensures)
    (puts_none o _ c.in_err-put_heading.ensures))

pub returns-in_err-put_moves : goal.returns-in_err-put_moves
returns-in_err-put_moves g c =
    let o = g.met.S.Sink.in_order in
    rw c.from_residual-in_err-put_moves.ensures
    (puts_same o (text_is c.args.tables.now _ _ c.heading-heading.ensures c.moves.ensures _ _ c.count_entry.ensures c.rows-rows.ensures)
    (puts_then o c.in_ok-put_heading.ensures
    (puts_none o _ c.in_err-put_moves.ensures)))

pub returns-in_err-put_row : goal.returns-in_err-put_row
returns-in_err-put_row g c =
    let o = g.met.S.Sink.in_order in
    rw c.from_residual-in_err-put_row.ensures
    (puts_same o (text_is c.args.tables.now _ _ c.heading-heading.ensures c.moves.ensures _ _ c.count_entry.ensures c.rows-rows.ensures)
    (puts_then o c.in_ok-put_heading.ensures
    (puts_then o c.in_ok-put_moves.ensures
    (c.loop-row.invariant None c.put_row.new.sink
    (rest_none o (rows_join c.args.tables.now.heading.registers (moves_in c.args.tables.now)) c.rows-rows.result.now c.loop-row.row-index no_row c.loop-row-test.true c.in_err-put_row.ensures)))))

pub loop-row-preserved : goal.loop-row-preserved
loop-row-preserved g c r t p =
    c.loop-row.invariant r t
    (rest_then g.met.S.Sink.in_order (rows_join c.args.tables.now.heading.registers (moves_in c.args.tables.now)) c.rows-rows.result.now c.loop-row.row-index no_row c.loop-row-test.true c.in_ok-put_row.ensures p)

pub returns : goal.returns
returns g c =
    let o = g.met.S.Sink.in_order in
    puts_same o (text_is c.args.tables.now _ _ c.heading-heading.ensures c.moves.ensures _ _ c.count_entry.ensures c.rows-rows.ensures)
    (puts_then o c.in_ok-put_heading.ensures
    (puts_then o c.in_ok-put_moves.ensures
    (c.loop-row.invariant (Some tt) c.loop-row.sink
    (rest_all o (rows_join c.args.tables.now.heading.registers (moves_in c.args.tables.now)) c.rows-rows.result.now c.loop-row.row-index c.loop-row-test.false))))
