use Rattle.std.proofs.Common.{ap, arith}
use Rattle.reading.proofs.Views.{done_long}
use Rattle.reading.proofs.Runs.{next_ok, next_not}
use Rattle.reading.specs.States.{state}
use Rattle.reading.proofs.reader.Reader.next_node.Goals as goal

pub returns-then-done-from : goal.returns-then-done-from
returns-then-done-from c =
    let r = c.open_node.new.self in
    let e = c.open_node.ensures in
    record {
      state = next_ok c.args.at.nodes c.args.at.line (state c.args.self.now) (state r) e (omega (arith, done_long r, c.done.ensures));
      stage = ap (λ s. s.stage) e;
      room = omega arith;
      heading = ap (λ s. s.heading) e;
    }

pub returns-else-done-from : goal.returns-else-done-from
returns-else-done-from c =
    let r = c.open_node.new.self in
    let e = c.open_node.ensures in
    record {
      state = next_not c.args.at.nodes c.args.at.line (state c.args.self.now) (state r) e (omega (arith, done_long r, c.done.ensures));
      stage = ap (λ s. s.stage) e;
      room = tt;
      heading = ap (λ s. s.heading) e;
    }
