use Rattle.equations.specs.Equations.{memory_sets}
use Rattle.equations.specs.Steps.{line_in}
use Rattle.verdict.proofs.Asking.{passed_more}
use Rattle.verdict.proofs.questions.ask_nodes.Goals as goal

pub loop-n-preserved : goal.loop-n-preserved
loop-n-preserved c =
    passed_more c.args.candidate.now.nodes.now (line_in c.args.candidate.now) (memory_sets c.args.memory.now) c.loop-n.n c.after_node.new.self.words c.target.result c.loop-n.invariant c.target.ensures c.after_node.ensures c.in_ok-ask_node.ensures
