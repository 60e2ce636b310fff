-- The verdict on an allocation.
use Rattle.std.specs.Prelude.{◌≡◌, ℕ, ◌*◌, ◌<◌, ◌≤◌, Bool, ◌⊎◌, List, length, Result, MatchResult, slice_index}
use Rattle.allocation.specs.Lines.{line_of}
use Rattle.refusal.specs.declared.Refusal.{Refusal}
use Rattle.refusal.specs.declared.Refusal.TheVariants.{ShortMemory, Mismatch}
use Rattle.source.specs.Nodes.{node_at, AllSound}
use Rattle.source.specs.Reading.{Source}
use Rattle.source.specs.declared.node.Node.{Node}
use Rattle.allocation.specs.Allocations.{Line, Allocation}
use Rattle.equations.specs.Equations.{after, back_moves, Equations, memory_sets}
use Rattle.equations.specs.Questions.{Matches, questions, entry_question, Clear, Passed, Failed, Fails}

-- what is true of every source that is loaded, and of every allocation that is read for it
pub record Fits (s : Source) (a : Allocation) : Type 0 where
  pub sound : AllSound s.temporaries s.nodes
  pub few : s.temporaries ≤ 48
  pub some : 0 < length s.nodes
  pub lines : length a.lines ≡ length s.nodes
  pub slots : s.parameters ≤ a.slots

module _ (nodes : List Node) (line : ℕ → Line) where
  -- 32 is yes for the nodes below n
  abbrev pub MatchesBelow : ℕ → Type 0
  MatchesBelow n = (k : ℕ) → k < n → Matches (node_at nodes k) (line k).main

  -- the first node for which it is no
  pub record MismatchedAt (n : ℕ) : Type 0 where
    pub at : n < length nodes
    pub before : MatchesBelow n
    pub here : Matches (node_at nodes n) (line n).main → ⊥

  module _ (X : ℕ → ℕ × ℕ → Bool) where
    -- the questions of the nodes below n are yes
    abbrev pub PassedBelow : ℕ → Type 0
    PassedBelow n = (k : ℕ) → k < n → Passed (questions k (node_at nodes k) (line k).main) (after X (node_at nodes k) (line k))

    -- the first node of which one is no
    pub record FailedNode (r : Refusal) : Type 0 where
      pub node : ℕ
      pub at : node < length nodes
      pub before : PassedBelow node
      pub here : Failed (questions node (node_at nodes node) (line node).main) (after X (node_at nodes node) (line node)) r

module _ (s : Source) (a : Allocation) (size : ℕ) where
  -- 31 and 32 are yes: `size` words of work memory suffice, and every main line matches its node
  pub record Ready : Type 0 where
    pub room : 64 * length s.nodes ≤ size
    pub matches : MatchesBelow s.nodes (line_of a) (length s.nodes)

  -- 31
  pub record TooShort (r : Refusal) : Type 0 where
    pub room : size < 64 * length s.nodes
    pub is : r ≡ ShortMemory

  -- 32
  pub record Mismatched (r : Refusal) : Type 0 where
    pub room : 64 * length s.nodes ≤ size
    pub node : ℕ
    pub first : MismatchedAt s.nodes (line_of a) node
    pub is : r ≡ Mismatch node

  module _ (X : ℕ → ℕ × ℕ → Bool) where
    -- accepted: on the least solution no question says no
    pub record Accepted : Type 0 where
      pub ready : Ready
      pub least : Equations s a X
      pub nodes : PassedBelow s.nodes (line_of a) X (length s.nodes)
      pub entry : Clear (back_moves a.entry (X 0)) (entry_question s a).forbids

    -- 33 to 35
    pub record RefusedAtNode (r : Refusal) : Type 0 where
      pub ready : Ready
      pub least : Equations s a X
      pub first : FailedNode s.nodes (line_of a) X r

    -- 36
    pub record RefusedAtEntry (r : Refusal) : Type 0 where
      pub ready : Ready
      pub least : Equations s a X
      pub nodes : PassedBelow s.nodes (line_of a) X (length s.nodes)
      pub first : Fails (entry_question s a) (back_moves a.entry (X 0)) r

    -- refused by the first question that says no
    abbrev pub Refused : Refusal → Type 0
    Refused r = TooShort r ⊎ (Mismatched r ⊎ (RefusedAtNode r ⊎ RefusedAtEntry r))

-- the answer of a check, whose work memory held `words` and holds words': accepted, or refused by r
abbrev pub Judged : {C : Type 0} → Source → Allocation → List ℕ → List ℕ → Result C Refusal → Type 0
Judged s a words words' r =
    MatchResult r (λ _. Accepted s a (length words) (memory_sets words')) (Refused s a (length words) (memory_sets words'))

-- the words of work memory before a check and after it: once 31 and 32 are yes, the least solution and, past it, the
-- words that were there; else all the words that were there
pub record Left (s : Source) (a : Allocation) (words words' : List ℕ) : Type 0 where
  pub solved : Ready s a (length words) → Equations s a (memory_sets words')
  pub others : Ready s a (length words) → (k : ℕ) → 64 * length s.nodes ≤ k → slice_index words' k ≡ slice_index words k
  pub kept : (Ready s a (length words) → ⊥) → words' ≡ words
