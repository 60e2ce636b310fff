-- The table of moves that is read has as many as the allocation.
use Rattle.std.proofs.Common.{◌≡◌, ℕ, length, Ok, Err, Result, ◌∙◌, MatchResult, OnOk}
use Rattle.refusal.specs.declared.Refusal.{Refusal}
use Rattle.allocation.specs.Allocations.{moves_in, allocation_of}
use Rattle.allocation.specs.Lines.{move_count}
use Rattle.reading.specs.declared.reader.Reader.{Reader}
use Rattle.reading.specs.Reading.{State, finish}
use Rattle.reading.proofs.ReadLaws.{Sound, finish_counted}

pub counted : (n k : ℕ) (st : State) (r : Reader) (x : Result (Unit {0}) Refusal) → Sound n st → length (moves_in r.tables) ≡ st.moves
    → MatchResult x (λ _. finish n k st ≡ Ok (allocation_of r.tables)) (λ e. finish n k st ≡ Err e) → OnOk x (length (moves_in r.tables) ≡ move_count (allocation_of r.tables))
counted n k st r (Ok u) s same e = same ∙ finish_counted n k st (allocation_of r.tables) s e
counted n k st r (Err f) s same e = tt
