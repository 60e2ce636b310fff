-- What an offer answers, and what it leaves in the work memory.
use Rattle.std.specs.Prelude.{◌≡◌, ℕ, ◌⊎◌, List, length, Some, None, Ok, Err, Option, Result}
use Rattle.refusal.specs.declared.Refusal.{Refusal}
use Rattle.refusal.specs.declared.Refusal.TheVariants.{NoSource}
use Rattle.source.specs.Reading.{Source}
use Rattle.allocation.specs.Allocations.{Allocation}
use Rattle.allocation.specs.Lines.{move_count}
use Rattle.reading.specs.Reading.{read_allocation}
use Rattle.equations.specs.Equations.{memory_sets}
use Rattle.equations.specs.Verdict.{Fits, Accepted, Refused, Left}

-- the text bs reads, for the source s, as the allocation a
abbrev pub Reads : Source → List ℕ → Allocation → Type 0
Reads s bs a = read_allocation s.parameters (length s.nodes) bs ≡ Ok a

-- the words of work memory before and after
module _ (s : Source) (bs words words' : List ℕ) where
  -- accepted: the text reads as the allocation, no question of the check says no, and the answer is the count of moves
  pub record Accepts (a : Allocation) (count : ℕ) : Type 0 where
    pub read : Reads s bs a
    pub fits : Fits s a
    pub accepted : Accepted s a (length words) (memory_sets words')
    pub left : Left s a words words'
    pub moves : count ≡ move_count a

  -- refused by a question of the reader: no word is touched
  pub record Unread (e : Refusal) : Type 0 where
    pub read : read_allocation s.parameters (length s.nodes) bs ≡ Err e
    pub kept : words' ≡ words

  -- refused by a question of the check
  pub record Rejects (a : Allocation) (e : Refusal) : Type 0 where
    pub read : Reads s bs a
    pub fits : Fits s a
    pub refused : Refused s a (length words) (memory_sets words') e
    pub left : Left s a words words'

-- for the source that is loaded, if one is; a is the allocation that the text reads as, if it does
abbrev pub Offered : Option Source → List ℕ → List ℕ → Allocation → List ℕ → Result ℕ Refusal → Type 0
Offered None bs words a words' (Ok count) = ⊥
Offered None bs words a words' (Err e) = (e ≡ NoSource) × (words' ≡ words)
Offered (Some s) bs words a words' (Ok count) = Accepts s bs words words' a count
Offered (Some s) bs words a words' (Err e) = Unread s bs words words' e ⊎ Rejects s bs words words' a e
