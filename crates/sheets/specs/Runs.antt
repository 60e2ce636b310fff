-- Runs of the worked allocations.
use Rattle.std.specs.Prelude.{◌≡◌, ℕ, ◌≤◌, List, [], ◌∷◌, map, length}
use Rattle.values.specs.Words.{words}
use Rattle.values.specs.Hosts.{script}
use Rattle.values.specs.declared.word.Word.{Word}
use Rattle.machine.specs.declared.outcome.Outcome.{Outcome}
use Rattle.machine.specs.Machine.{Ending, Cells, source_run, allocated_run}
use Rattle.sheets.specs.Texts.{source_a}
use Rattle.sheets.specs.Checks.{allocation_b, source_c, allocation_c}

abbrev pub word : ℕ → Word
word n = record { 0 = n }

-- how a run ends: its outcome, the nodes passed and the moves made
pub record Ends {S : Type 0} (e : Ending Word S (Cells Word)) (outcome : Outcome Word) (nodes moves : ℕ) : Type 0 where
  pub outcome_is : e.outcome ≡ outcome
  pub nodes_are : e.log.count ≡ nodes
  pub moves_are : e.memory.moves ≡ moves

-- a run of the worked allocation on these words, with a script of these answers
abbrev pub run_b : ℕ → ℕ → List ℕ → List ℕ → List Word → Ending Word (List Word) (Cells Word)
run_b budget room args answers cells = allocated_run words (script words) source_a allocation_b budget room (map word args) (map word answers) cells

-- whatever the cells held, where there are cells enough
abbrev pub OnCells : ℕ → (List Word → Type 0) → Type 0
OnCells n P = (cells : List Word) → n ≤ length cells → P cells

pub record WorkedRuns : Type 0 where
  -- from 5 and 10, with the budget 9: 15 after 4 nodes and 3 moves
  pub without_call : OnCells 8 (λ cells. Ends (run_b 9 1 (5 ∷ 10 ∷ []) [] cells) (Outcome.Ended (word 15)) 4 3)
  -- from 4294967295 and 2, where the script answers 9: 9 after 5 nodes and 3 moves, with one call in the transcript
  pub with_call : OnCells 8 (λ cells. Ends (run_b 9 1 (4294967295 ∷ 2 ∷ []) (9 ∷ []) cells) (Outcome.Ended (word 9)) 5 3)
  pub transcript : OnCells 8 (λ cells. (run_b 9 1 (4294967295 ∷ 2 ∷ []) (9 ∷ []) cells).log.transcript ≡ record { function = 7; first = word 1; second = word 2; answer = word 9 } ∷ [])
  -- the same with the budget 3, and with a list of length 0
  pub spent : OnCells 8 (λ cells. Ends (run_b 3 1 (4294967295 ∷ 2 ∷ []) (9 ∷ []) cells) Outcome.Spent 3 3)
  pub full : OnCells 8 (λ cells. Ends (run_b 9 0 (4294967295 ∷ 2 ∷ []) (9 ∷ []) cells) Outcome.Full 3 3)
  -- the source with a loop ends with 1 from 5, and the allocation that is refused for it with 0
  pub source_c_ends : (source_run words (script words) source_c 99 0 (word 5 ∷ []) []).outcome ≡ Outcome.Ended (word 1)
  pub allocation_c_ends : OnCells 6 (λ cells. (allocated_run words (script words) source_c allocation_c 99 0 (word 5 ∷ []) [] cells).outcome ≡ Outcome.Ended (word 0))
