-- Moves added to tables one after another.
use Rattle.std.proofs.Common.{ℕ, ◌+◌, ◌≤◌, List, ◌++◌, length, ap, ◌∙◌, append_assoc, arith}
use Rattle.std.proofs.lemmas.List.{length-append}
use Rattle.allocation.specs.Allocations.{moves_in}
use Rattle.allocation.specs.declared.line.Move.{Move}
use Rattle.allocation.specs.declared.tables.Tables.{Tables}
use Rattle.places.specs.declared.layout.Layout.{Layout}
use Rattle.places.specs.Steps.{Added, Open}

-- some moves, and then others
pub added_two : (t u w : Tables) (xs ys : List Move) → Added t u xs → Added u w ys → Added t w (xs ++ ys)
added_two t u w xs ys a b =
    record { heading = b.heading ∙ a.heading; rows = b.rows ∙ a.rows; entry = b.entry ∙ a.entry; moves = b.moves ∙ (ap (λ z. z ++ ys) a.moves ∙ append_assoc (moves_in t) xs ys) }

-- what is left of the room
pub still_open : (t u : Tables) (y : Layout) (k j : ℕ) (ms : List Move) → Open t y k → Added t u ms → length ms + j ≤ k → Open u y j
still_open t u y k j ms o a h =
    record { registers = ap (λ x. x.registers) a.heading ∙ o.registers; slots = ap (λ x. x.slots) a.heading ∙ o.slots; room = omega (arith, ap length a.moves, length-append (moves_in t) ms, o.room) }
