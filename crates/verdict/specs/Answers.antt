-- What the steps of a check answer.
use Rattle.std.specs.Prelude.{ℕ, Bool, ◌&&◌, ◌⊎◌, List, length, Option, Result, MatchOption, MatchResult}
use Rattle.refusal.specs.declared.Refusal.{Refusal}
use Rattle.source.specs.declared.node.Node.{Node}
use Rattle.allocation.specs.Allocations.{Line}
use Rattle.allocation.specs.declared.line.Move.{Move}
use Rattle.equations.specs.Equations.{back_moves}
use Rattle.equations.specs.Questions.{Question, Clear, FirstEquation, Passed, Failed, Fails}
use Rattle.equations.specs.Verdict.{PassedBelow, FailedNode}
use Rattle.verdict.specs.declared.questions.Equation.{Equation}

-- the first equation of E that passes the test is found, or none passes
abbrev pub Finds : (ℕ × ℕ → Bool) → (ℕ × ℕ → Bool) → Option Equation → Type 0
Finds E p r = MatchOption r (Clear E p) (λ e. FirstEquation (λ d. E d && p d) (e.location, e.temporary))

-- what questions say of E
abbrev pub Answered : List Question → (ℕ × ℕ → Bool) → Result (Unit {0}) Refusal → Type 0
Answered qs E r = MatchResult r (λ _. Passed qs E) (Failed qs E)

-- what the questions of all nodes and of the entry say of the sets X
abbrev pub Asked : List Node → (ℕ → Line) → (ℕ → ℕ × ℕ → Bool) → List Move → Question → Result (Unit {0}) Refusal → Type 0
Asked nodes line X entry q r =
    MatchResult r (λ _. PassedBelow nodes line X (length nodes) × Clear (back_moves entry (X 0)) q.forbids)
    (λ f. FailedNode nodes line X f ⊎ (PassedBelow nodes line X (length nodes) × Fails q (back_moves entry (X 0)) f))
