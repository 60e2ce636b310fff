use Rattle.equations.specs.Equations.{memory_sets}
use Rattle.equations.specs.Steps.{line_in}
use Rattle.equations.specs.Verdict.{PassedBelow}
use Rattle.verdict.proofs.questions.ask_nodes.Given as goal

abbrev pub invariant-loop-n : goal.invariant-loop-n
invariant-loop-n l = PassedBelow l.candidate.nodes.now (line_in l.candidate) (memory_sets l.memory) l.n
