-- What a placement answers, and what it leaves in the work memory.
use Rattle.std.specs.Prelude.{◌≡◌, ℕ, ◌*◌, ◌<◌, ◌≤◌, Bool, ◌⊎◌, List, length, Some, None, Ok, Err, Option, Result}
use Rattle.refusal.specs.declared.Refusal.{Refusal}
use Rattle.refusal.specs.declared.Refusal.TheVariants.{Unplaced, Registers, ShortMemory}
use Rattle.source.specs.Reading.{Source}
use Rattle.loader.specs.Live.{Liveness, live_sets}
use Rattle.allocation.specs.Allocations.{Allocation}
use Rattle.allocation.specs.Lines.{move_count}
use Rattle.allocation.specs.WellFormed.{FewMoves}
use Rattle.equations.specs.Equations.{memory_sets}
use Rattle.equations.specs.Verdict.{Fits, Accepted, Left}
use Rattle.places.specs.declared.place.Place.{Place}
use Rattle.places.specs.Publish.{published_allocation}

-- 41 is yes: there are 3 to 16 registers
pub record Enough (R : ℕ) : Type 0 where
  pub low : 3 ≤ R
  pub high : R ≤ 16

-- the places that a placer gives to the temporaries of a source, by what is live and the number of registers
module _ (places : Source → (ℕ → ℕ → Bool) → ℕ → List Place) where
  -- what is published for the source: the masks of its nodes say what is live
  abbrev pub published : Source → List ℕ → ℕ → Allocation
  published s live R = published_allocation s (live_sets live) R (places s (live_sets live) R)

  -- the words of work memory before and after
  module _ (s : Source) (live : List ℕ) (R : ℕ) (words words' : List ℕ) where
    -- accepted: there are 3 to 16 registers and 64 words a node; the allocation is what is published, by what is live;
    -- no question of the check says no to it, its moves are few, and the answer is their count
    pub record Accepts (a : Allocation) (count : ℕ) : Type 0 where
      pub registers : Enough R
      pub room : 64 * length s.nodes ≤ length words
      pub least : Liveness s.nodes (live_sets live)
      pub long : length live ≡ length s.nodes
      pub published : a ≡ published s live R
      pub fits : Fits s a
      pub accepted : Accepted s a (length words) (memory_sets words')
      pub left : Left s a words words'
      pub few : FewMoves (length s.nodes) a
      pub moves : count ≡ move_count a

    -- refused by the number of registers: no word is touched
    pub record RefusedRegisters (e : Refusal) : Type 0 where
      pub outside : Enough R → ⊥
      pub is : e ≡ Registers
      pub kept : words' ≡ words

    -- refused by the size of the work memory: no word is touched
    pub record RefusedMemory (e : Refusal) : Type 0 where
      pub registers : Enough R
      pub room : length words < 64 * length s.nodes
      pub is : e ≡ ShortMemory
      pub kept : words' ≡ words

  -- for the source that is loaded, if one is; a is the allocation that is placed
  abbrev pub Placed : Option Source → List ℕ → ℕ → List ℕ → Allocation → List ℕ → Result ℕ Refusal → Type 0
  Placed None live R words a words' (Ok count) = ⊥
  Placed None live R words a words' (Err e) = (e ≡ Unplaced) × (words' ≡ words)
  Placed (Some s) live R words a words' (Ok count) = Accepts s live R words words' a count
  Placed (Some s) live R words a words' (Err e) = RefusedRegisters s live R words words' e ⊎ RefusedMemory s live R words words' e

-- a source is loaded, there are 3 to 16 registers, and 64 words of work memory a node
abbrev pub Suits : Option Source → ℕ → ℕ → Type 0
Suits None R size = ⊥
Suits (Some s) R size = Enough R × (64 * length s.nodes ≤ size)

-- accepted
abbrev pub Granted : Result ℕ Refusal → Type 0
Granted (Ok count) = Unit {0}
Granted (Err e) = ⊥

-- a placement is accepted exactly when all of its questions are yes, whatever the placer
abbrev pub AcceptedExactly : Type 0
AcceptedExactly =
    (places : Source → (ℕ → ℕ → Bool) → ℕ → List Place) (o : Option Source) (live : List ℕ) (R : ℕ) (words words' : List ℕ) (a : Allocation) (r : Result ℕ Refusal)
    → Placed places o live R words a words' r → (Granted r → Suits o R (length words)) × (Suits o R (length words) → Granted r)

-- it has one answer
abbrev pub OneAnswer : Type 0
OneAnswer =
    (places : Source → (ℕ → ℕ → Bool) → ℕ → List Place) (o : Option Source) (live : List ℕ) (R : ℕ) (words left left' : List ℕ) (a a' : Allocation) (r r' : Result ℕ Refusal)
    → Placed places o live R words a left r → Placed places o live R words a' left' r' → r ≡ r'
