-- What each call answers and leaves, from what the plain engine holds and what the call brings.
use Rattle.std.specs.Prelude.{◌≡◌, ℕ, ◌+◌, ◌*◌, ◌≤◌, Bool, true, false, List, length, Some, None, Ok, Err, Option, Result}
use Rattle.refusal.specs.declared.Refusal.{Refusal}
use Rattle.refusal.specs.declared.Refusal.TheVariants.{NothingStands, Unwritten, NoRoom}
use Rattle.text.specs.Put.{WrittenAt}
use Rattle.source.specs.Reading.{Source}
use Rattle.loader.specs.Load.{Granted, Refused}
use Rattle.allocation.specs.Allocations.{Allocation}
use Rattle.allocation.specs.Rendering.{render}
use Rattle.offer.specs.Offers.{Offered}
use Rattle.places.specs.declared.place.Place.{Place}
use Rattle.placement.specs.Placements.{Placed}
use Rattle.values.specs.Kinds.{Arithmetic}
use Rattle.values.specs.Hosts.{Answers}
use Rattle.machine.specs.declared.outcome.Entry.{Entry}
use Rattle.machine.specs.declared.outcome.Report.{Report}
use Rattle.machine.specs.Machine.{Ending, source_run}
use Rattle.machine.specs.Run.{Answered, Untouched, laid}
use Rattle.engine.specs.Plain.{Standing, Plain, with_source, settled}

-- a load that is granted: p was held before, q is held after
pub record LoadGranted (p : Plain) (bs : List ℕ) (counts : ℕ × ℕ × ℕ) (q : Plain) : Type 0 where
  pub source : Source
  pub live : List ℕ
  pub granted : Granted bs source live counts
  pub held : q ≡ with_source p source

pub record LoadRefused (p : Plain) (bs : List ℕ) (e : Refusal) (q : Plain) : Type 0 where
  pub refused : Refused bs e
  pub held : q ≡ p

abbrev pub LoadMade : Plain → List ℕ → Result (ℕ × ℕ × ℕ) Refusal → Plain → Type 0
LoadMade p bs (Ok counts) q = LoadGranted p bs counts q
LoadMade p bs (Err e) q = LoadRefused p bs e q

-- an offer of the text bs, with the words of work memory before and after
pub record OfferMade (p : Plain) (bs words words' : List ℕ) (r : Result ℕ Refusal) (q : Plain) : Type 0 where
  pub allocation : Allocation
  pub offered : Offered p.loaded bs words allocation words' r
  pub held : q ≡ settled p allocation false r

-- a placement in R registers by a placer's places; `live` has the masks of what is live in the loaded source
pub record PlaceMade (places : Source → (ℕ → ℕ → Bool) → ℕ → List Place) (p : Plain) (R : ℕ) (words words' : List ℕ) (r : Result ℕ Refusal) (q : Plain) : Type 0 where
  pub live : List ℕ
  pub allocation : Allocation
  pub placed : Placed places p.loaded live R words allocation words' r
  pub held : q ≡ settled p allocation true r

-- a granted run gives what the source machine gives: its outcome, the nodes passed, the transcript and the host's state
pub record AsSource {V S : Type 0} (e : Ending V S (ℕ → V)) (l : List (Entry V)) (r : Report V) (h' : S) (l' : List (Entry V)) : Type 0 where
  pub outcome : r.outcome ≡ e.outcome
  pub nodes : r.nodes ≡ e.log.count
  pub entries : r.entries ≡ length e.log.transcript
  pub host : h' ≡ e.log.host
  pub list : l' ≡ laid e.log.transcript l

-- a run of at most `budget` nodes: the host's state h, the cells cs and the list l before it, and h', cs' and l' after it
module _ {V S : Type 0} (K : Arithmetic V) (E : Answers S V) (budget : ℕ) (args : List V) (h : S) (cs : List V) (l : List (Entry V)) where
  -- granted, it ends as the source does, and where the allocation was placed its moves are few
  pub record KeptPromise (st : Standing) (r : Report V) (h' : S) (l' : List (Entry V)) : Type 0 where
    pub as_source : AsSource (source_run K E st.source budget (length l) args h) l r h' l'
    pub few : st.placed ≡ true → r.moves ≤ 8 + 3 * r.nodes

  abbrev pub Promised : Standing → Result (Report V) Refusal → S → List (Entry V) → Type 0
  Promised st (Ok r) h' l' = KeptPromise st r h' l'
  Promised st (Err e) h' l' = Unit {0}

  -- a run of the standing allocation
  pub record RunStanding (st : Standing) (r : Result (Report V) Refusal) (h' : S) (cs' : List V) (l' : List (Entry V)) : Type 0 where
    pub answered : Answered K E st.source st.allocation budget args h cs l r h' cs' l'
    pub promised : Promised st r h' l'

  -- where none stands it is refused, and nothing is touched
  pub record RunRefused (r : Result (Report V) Refusal) (h' : S) (cs' : List V) (l' : List (Entry V)) : Type 0 where
    pub answer : r ≡ Err NothingStands
    pub untouched : Untouched h cs l h' cs' l'

  abbrev pub RunMade : Option Standing → Result (Report V) Refusal → S → List V → List (Entry V) → Type 0
  RunMade None r h' cs' l' = RunRefused r h' cs' l'
  RunMade (Some st) r h' cs' l' = RunStanding st r h' cs' l'

-- a write from place `at` of a buffer, with its bytes before and after
abbrev pub WriteMade : Option Standing → ℕ → List ℕ → Result ℕ Refusal → List ℕ → Type 0
WriteMade None at was r out = (r ≡ Err Unwritten) × (out ≡ was)
WriteMade (Some st) at was r out = WrittenAt NoRoom at (render st.allocation) was r out
