use Rattle.writer.proofs.Parts.{line_is}
use Rattle.writer.proofs.Putting.{puts_then, puts_none, puts_same}
use Rattle.writer.proofs.put_row.Goals as goal

pub returns-in_err-put_moves : goal.returns-in_err-put_moves
returns-in_err-put_moves g c =
    let o = g.met.S.Sink.in_order in
    rw c.from_residual.ensures
    (puts_same o (line_is c.args.tables.now _ _ c.heading-registers.ensures c.moves-moves.ensures c.args.row)
    (puts_none o _ c.in_err-put_moves.ensures))

pub returns-in_err-put_main : goal.returns-in_err-put_main
returns-in_err-put_main g c =
    let o = g.met.S.Sink.in_order in
    rw c.from_residual-in_err-put_main.ensures
    (puts_same o (line_is c.args.tables.now _ _ c.heading-registers.ensures c.moves-moves.ensures c.args.row)
    (puts_then o c.in_ok-put_moves.ensures
    (puts_none o _ c.in_err-put_main.ensures)))

pub returns-in_err-put_moves-2 : goal.returns-in_err-put_moves-2
returns-in_err-put_moves-2 g c =
    let o = g.met.S.Sink.in_order in
    rw c.from_residual-in_err-put_moves-2.ensures
    (puts_same o (line_is c.args.tables.now _ _ c.heading-registers.ensures c.moves-moves.ensures c.args.row)
    (puts_then o c.in_ok-put_moves.ensures
    (puts_then o c.in_ok-put_main.ensures
    (puts_none o _ c.in_err-put_moves-2.ensures))))

pub returns : goal.returns
returns g c =
    let o = g.met.S.Sink.in_order in
    puts_same o (line_is c.args.tables.now _ _ c.heading-registers.ensures c.moves-moves.ensures c.args.row)
    (puts_then o c.in_ok-put_moves.ensures
    (puts_then o c.in_ok-put_main.ensures
    (puts_then o c.in_ok-put_moves-2.ensures c.put_moves-3.ensures)))
