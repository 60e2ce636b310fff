use Rattle.std.proofs.Common.{Some, None}
use Rattle.writer.proofs.Parts.{moves_join, no_move}
use Rattle.writer.proofs.Putting.{rest_then, rest_none, rest_all}
use Rattle.writer.proofs.put_moves.Goals as goal

pub loop-m-preserved : goal.loop-m-preserved
loop-m-preserved g c r t p =
    c.loop-m.invariant r t (rest_then g.met.S.Sink.in_order (moves_join c.args.registers c.args.edge) c.args.moves.now c.loop-m.m-index no_move c.loop-m-test.true c.in_ok-put_move.ensures p)

pub returns-in_err-put_move : goal.returns-in_err-put_move
returns-in_err-put_move g c =
    rw c.from_residual.ensures (c.loop-m.invariant None c.put_move.new.sink (rest_none g.met.S.Sink.in_order (moves_join c.args.registers c.args.edge) c.args.moves.now c.loop-m.m-index no_move c.loop-m-test.true c.in_err-put_move.ensures))

pub returns : goal.returns
returns g c = c.loop-m.invariant (Some tt) c.loop-m.sink (rest_all g.met.S.Sink.in_order (moves_join c.args.registers c.args.edge) c.args.moves.now c.loop-m.m-index c.loop-m-test.false)
