-- Places of temporaries, and when they are consistent. A location is a number: register i is i, and slot j is R + j.
use Rattle.std.specs.Prelude.{◌≡◌, ℕ, ◌+◌, ◌-◌, ◌<◌, ◌≤◌, Bool, true, false, ◌||◌, ◌⊎◌, List, length, replicate, Some, None, Option, ◌≢◌, slice_index_or}
use Rattle.sets.specs.Masks.{names}
use Rattle.source.specs.Nodes.{result_of, node_at, AllSound}
use Rattle.source.specs.Reading.{Source}
use Rattle.source.specs.declared.node.Node.{Node}
use Rattle.source.specs.declared.node.Node.TheVariants.{Const, Mov, Binary, Call, Branch, Return}
use Rattle.loader.specs.Live.{out_of, is_result, live_sets, Liveness}
use Rattle.loader.specs.declared.held.LoadedSource.{LoadedSource}
use Rattle.places.specs.declared.place.Place.{Place}
use Rattle.places.specs.declared.place.Place.TheVariants.{Home, Register}

-- the location of temporary v, whose place is known: home is its own slot
abbrev pub location : ℕ → ℕ → Place → ℕ
location R v Home = R + v
location R v (Register x) = x

-- the locations of all temporaries, by the list of their places
abbrev pub locations : ℕ → List Place → ℕ → ℕ
locations R ps v = location R v (slice_index_or ps v Home)

-- the source that is lent, and what is live into its nodes
abbrev pub source_of : LoadedSource → Source
source_of o = record { parameters = o.heading.parameters; temporaries = o.heading.temporaries; nodes = o.nodes.now }

abbrev pub live_of : LoadedSource → ℕ → ℕ → Bool
live_of o = live_sets o.live.now

-- the origin of a `mov`
abbrev pub copied : Node → Option ℕ
copied (Const d k next) = None
copied (Mov d a next) = Some a
copied (Binary o d a b next) = None
copied (Call d h a b next) = None
copied (Branch c a b taken other) = None
copied (Return a) = None

-- a register below R - 2, or home, which is slot v
abbrev pub IsPlace : ℕ → ℕ → ℕ → Type 0
IsPlace R v l = (l < R - 2) ⊎ (l ≡ R + v)

-- places differ where they must, by what is live (L): a node's result and any other temporary live out of that node,
-- but for the origin of a `mov`, which may share; and two parameters live into node 0
pub record Consistent (s : Source) (R : ℕ) (L : ℕ → ℕ → Bool) (place : ℕ → ℕ) : Type 0 where
  pub placed : (v : ℕ) → IsPlace R v (place v)
  pub apart :
      (n : ℕ) → n < length s.nodes → (d v : ℕ) → result_of (node_at s.nodes n) ≡ Some d → out_of L (node_at s.nodes n) v ≡ true → (v ≢ d) → names (copied (node_at s.nodes n)) v ≡ false
      → place v ≢ place d
  pub entry : (u v : ℕ) → u < s.parameters → v < s.parameters → L 0 u ≡ true → L 0 v ≡ true → (u ≢ v) → place u ≢ place v

-- every temporary live into node 0 is a parameter
abbrev pub Arrives : Source → (ℕ → ℕ → Bool) → Type 0
Arrives s L = (v : ℕ) → L 0 v ≡ true → v < s.parameters

-- v is neither live into a node nor the result of one
abbrev pub Unused : Source → (ℕ → ℕ → Bool) → ℕ → Type 0
Unused s L v = (n : ℕ) → n < length s.nodes → (L n v || is_result (node_at s.nodes n) v) ≡ false

-- what the places of one source owe: one for each temporary, consistent, and home where the temporary is not used
pub record Owed (s : Source) (R : ℕ) (L : ℕ → ℕ → Bool) (ps : List Place) : Type 0 where
  pub long : length ps ≡ s.temporaries
  pub consistent : Consistent s R L (locations R ps)
  pub unused : (v : ℕ) → v < s.temporaries → Unused s L v → slice_index_or ps v Home ≡ Home

-- what a placer owes, for every source that can be loaded and every number of registers
abbrev pub Lawful : (Source → (ℕ → ℕ → Bool) → ℕ → List Place) → Type 0
Lawful places =
    (s : Source) (L : ℕ → ℕ → Bool) (R : ℕ) → 3 ≤ R → R ≤ 16 → AllSound s.temporaries s.nodes → Liveness s.nodes L → Arrives s L
    → Owed s R L (places s L R)

-- every temporary at home
abbrev pub homes : Source → List Place
homes s = replicate s.temporaries Home
