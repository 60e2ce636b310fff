use Rattle.verdict.proofs.Asking.{Arrived}
use Rattle.verdict.proofs.questions.find_foreign.Given as goal

abbrev pub invariant-loop-i : goal.invariant-loop-i
invariant-loop-i l = Arrived l.arrival l.i l.words
