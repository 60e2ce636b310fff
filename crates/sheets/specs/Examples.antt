-- The worked examples.
use Rattle.std.specs.Prelude.{◌≡◌, [], ◌∷◌, Ok}
use Rattle.refusal.specs.declared.Refusal.TheVariants.{Elsewhere, Overwritten, NeverSet, Foreign}
use Rattle.source.specs.declared.node.Operation.TheVariants.{Add}
use Rattle.allocation.specs.declared.line.Main.TheVariants.{Skip, Binary}
use Rattle.source.specs.Reading.{read_source}
use Rattle.allocation.specs.Lines.{move_count}
use Rattle.reading.specs.Reading.{read_allocation}
use Rattle.loader.specs.Load.{Granted}
use Rattle.sheets.specs.Texts.{text_a, source_a}
use Rattle.loader.specs.Live.{live_sets}
use Rattle.places.specs.declared.place.Place.TheVariants.{Home, Register}
use Rattle.colouring.specs.Colouring.{colouring}
use Rattle.sheets.specs.Runs.{WorkedRuns}
use Rattle.sheets.specs.Checks.{move, worked, text_b, allocation_b, source_c, source_text_c, text_c, allocation_c, Accepts, Refuses, Before}

pub record Worked : Type 0 where
  -- the worked source loads with 4 temporaries, 5 nodes and at most 3 temporaries live into one node
  pub loads : Granted text_a source_a (3 ∷ 7 ∷ 11 ∷ 10 ∷ 8 ∷ []) (4, 5, 3)
  -- with 4 registers, colouring keeps temporary 0 at home, 1 in r1, 2 and 3 in r0
  pub colours : colouring source_a (live_sets (3 ∷ 7 ∷ 11 ∷ 10 ∷ 8 ∷ [])) 4 ≡ Home ∷ Register 1 ∷ Register 0 ∷ Register 0 ∷ []
  -- its worked allocation is read from its text, and accepted with 3 moves
  pub reads : read_allocation 2 5 text_b ≡ Ok allocation_b
  pub accepted : Accepts source_a allocation_b
  pub moves : move_count allocation_b ≡ 3
  -- before node 2 temporary 0 is wanted in s0, 1 in r1 and 3 in r0, and nothing else
  pub before : Before source_a allocation_b 2 ((4, 0) ∷ (1, 1) ∷ (0, 3) ∷ [])
  -- with node 0 as `add r1 r2 r1` it is refused: at node 0, temporary 2 is wanted in r0
  pub elsewhere : Refuses source_a (worked (move 1 5 ∷ []) (Binary Add 1 2 1)) (Elsewhere 0 2 0)
  -- without `entry r1 s1`: temporary 1 is wanted in r1
  pub foreign : Refuses source_a (worked [] (Binary Add 0 2 1)) (Foreign 1 1)
  -- with node 0 as `skip`: at node 0, temporary 2 is wanted in r0 and never set
  pub never_set : Refuses source_a (worked (move 1 5 ∷ []) Skip) (NeverSet 0 2 0)
  -- the source with a loop and its allocation are read from their texts
  pub reads_source_c : read_source source_text_c ≡ Ok source_c
  pub reads_c : read_allocation 1 4 text_c ≡ Ok allocation_c
  -- the allocation is refused: at node 1, temporary 1 is wanted where the result is put
  pub overwritten : Refuses source_c allocation_c (Overwritten 1 1 0)
  -- the runs of both allocations
  pub runs : WorkedRuns
