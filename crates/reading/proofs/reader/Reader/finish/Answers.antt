use Rattle.std.proofs.Common.{Ok, ap, ◌∙◌, arith}
use Rattle.reading.specs.States.{state}
use Rattle.reading.proofs.Views.{done_long, whole_is}
use Rattle.reading.proofs.Runs.{finish_ok, finish-not}
use Rattle.reading.proofs.reader.Reader.finish.Goals as goal

pub returns-then-done-from : goal.returns-then-done-from
returns-then-done-from c =
    let r = c.open_node.new.self in
    let e = c.open_node.ensures in
    record {
      end = finish_ok c.args.at.nodes c.args.at.line (state c.args.self.now) (state r) e (omega (arith, done_long r, c.done.ensures)) ∙ ap Ok (whole_is r (ap (λ s. s.stage) e));
      moves = ap (λ s. s.moves) e;
    }

pub returns-else-done-from : goal.returns-else-done-from
returns-else-done-from c =
    let r = c.open_node.new.self in
    record {
      end = finish-not c.args.at.nodes c.args.at.line (state c.args.self.now) (state r) c.open_node.ensures (omega (arith, done_long r, c.done.ensures));
      moves = ap (λ s. s.moves) c.open_node.ensures;
    }
