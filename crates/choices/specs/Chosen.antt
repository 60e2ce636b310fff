-- Each choice means what the one chosen means.
use Rattle.std.specs.Prelude.{ℕ, Bool, cond, List, ◌++◌, vec_items, Some, None, codes, Option}
use Rattle.std.specs.Str.{bytes_eq}
use Rattle.source.specs.Reading.{Source}
use Rattle.places.specs.declared.place.Place.{Place}
use Rattle.places.specs.Places.{homes}
use Rattle.colouring.specs.Colouring.{colouring}
use Rattle.values.specs.declared.word.Word.{Word}
use Rattle.values.specs.Words.{words}
use Rattle.values.specs.Hosts.{Answers, script, seats}
use Rattle.choices.specs.declared.frame.AnyFrame.{AnyFrame}
use Rattle.choices.specs.declared.frame.AnyFrame.TheVariants as frame
use Rattle.choices.specs.declared.host.WordHost.{WordHost}
use Rattle.choices.specs.declared.host.WordHost.TheVariants as host
use Rattle.choices.specs.declared.placer.AnyPlacer.{AnyPlacer}
use Rattle.choices.specs.declared.placer.AnyPlacer.TheVariants as placer

-- the cells of a frame: one row, or two end to end
abbrev pub cells_of : {V : Type 0} → AnyFrame V → List V
cells_of (frame.Flat f) = vec_items f.row
cells_of (frame.Banked f) = vec_items f.low ++ vec_items f.high

-- the state of a host: the values that a script has left, or a row of seats
pub data State : Type 0 where
  Left : List Word → State
  Row : List ℕ → State

abbrev pub state_of : WordHost → State
state_of (host.Script s) = Left s
state_of (host.Seats r) = Row r.seats

-- a script's state is answered by the rules of scripts, a row by those of seats, and each goes on as one of its own
abbrev pub chosen_answer : State → ℕ → Word → Word → Word
chosen_answer (Left xs) h a b = (script words).answer xs h a b
chosen_answer (Row xs) h a b = seats.answer xs h a b

abbrev pub chosen_next : State → ℕ → Word → Word → State
chosen_next (Left xs) h a b = Left ((script words).next xs h a b)
chosen_next (Row xs) h a b = Row (seats.next xs h a b)

abbrev pub chosen : Answers State Word
chosen = record { answer = chosen_answer; next = chosen_next }

-- the name of a placer
abbrev pub placer_of : List ℕ → Option AnyPlacer
placer_of bs = cond (bytes_eq bs (codes "colouring")) (Some placer.Colouring) (cond (bytes_eq bs (codes "home")) (Some placer.AllHome) None)

-- the places of a placer: by colouring, or all at home
abbrev pub places_of : AnyPlacer → Source → (ℕ → ℕ → Bool) → ℕ → List Place
places_of placer.Colouring s L R = colouring s L R
places_of placer.AllHome s L R = homes s
