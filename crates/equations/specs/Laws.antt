-- Laws of the verdict.
use Rattle.std.specs.Prelude.{◌≡◌, ℕ, ◌<◌, Bool, true, ◌&&◌, ◌⊎◌, List, [], ◌∷◌, length}
use Rattle.allocation.specs.Lines.{line_of}
use Rattle.refusal.specs.declared.Refusal.{Refusal}
use Rattle.source.specs.Nodes.{node_at}
use Rattle.source.specs.Reading.{Source}
use Rattle.allocation.specs.Allocations.{Allocation}
use Rattle.equations.specs.Equations.{after, back_moves, Equations}
use Rattle.equations.specs.Questions.{Question, questions, entry_question}
use Rattle.equations.specs.Verdict.{Fits, Ready, Accepted, Refused}

-- E has an equation that the question forbids
abbrev pub Breaks : Question → (ℕ × ℕ → Bool) → Type 0
Breaks q E = (e : ℕ × ℕ) × ((E e && q.forbids e) ≡ true)

-- one that some question forbids
abbrev pub BreaksOne : List Question → (ℕ × ℕ → Bool) → Type 0
BreaksOne [] E = ⊥
BreaksOne (q ∷ qs) E = Breaks q E ⊎ BreaksOne qs E

module _ (s : Source) (a : Allocation) (X : ℕ → ℕ × ℕ → Bool) where
  -- the sets X fail at node n: the set after it has an equation that a question of the node forbids
  abbrev pub FailsAt : ℕ → Type 0
  FailsAt n = BreaksOne (questions n (node_at s.nodes n) (line_of a n).main) (after X (node_at s.nodes n) (line_of a n))

  -- they fail at the entry
  abbrev pub FailsAtEntry : Type 0
  FailsAtEntry = Breaks (entry_question s a) (back_moves a.entry (X 0))

  -- they fail nowhere
  pub record SoundEverywhere : Type 0 where
    pub nodes : (n : ℕ) → n < length s.nodes → FailsAt n → ⊥
    pub entry : FailsAtEntry → ⊥

-- once 31 and 32 are yes, an allocation is accepted exactly when the least solution fails at no node and not at the entry
abbrev pub AcceptedExactly : Type 0
AcceptedExactly =
    (s : Source) (a : Allocation) (size : ℕ) → Ready s a size → (X : ℕ → ℕ × ℕ → Bool) → Equations s a X
    → (Accepted s a size X → SoundEverywhere s a X) × (SoundEverywhere s a X → Accepted s a size X)

-- an allocation is not both accepted and refused, and is refused in one way
abbrev pub OneVerdict : Type 0
OneVerdict =
    (s : Source) (a : Allocation) (size : ℕ) → Fits s a → (X Y : ℕ → ℕ × ℕ → Bool) (r : Refusal) → Refused s a size X r
    → (Accepted s a size Y → ⊥) × ((q : Refusal) → Refused s a size Y q → r ≡ q)
