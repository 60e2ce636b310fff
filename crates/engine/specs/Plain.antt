-- The plain engine: what it holds.
use Rattle.std.specs.Prelude.{ℕ, Bool, Some, None, Ok, Err, Option, Result}
use Rattle.std.specs.Option.{option_map}
use Rattle.refusal.specs.declared.Refusal.{Refusal}
use Rattle.source.specs.Reading.{Source}
use Rattle.allocation.specs.Allocations.{Allocation}

-- an allocation that stands, the source for which it was accepted, and whether it was placed
pub record Standing : Type 0 where
  pub source : Source
  pub allocation : Allocation
  pub placed : Bool

-- the loaded source and the standing allocation, if there are such
pub record Plain : Type 0 where
  pub loaded : Option Source
  pub standing : Option Standing

abbrev pub new : Plain
new = record { loaded = None; standing = None }

-- a granted load replaces the loaded source only
abbrev pub with_source : Plain → Source → Plain
with_source p s = record { loaded = Some s; standing = p.standing }

-- an accepted allocation stands, with the loaded source
abbrev pub with_standing : Plain → Allocation → Bool → Plain
with_standing p a placed = record { loaded = p.loaded; standing = option_map (λ s. record { source = s; allocation = a; placed = placed }) p.loaded }

-- what is held after an offer or a placement of the allocation a: refused, it changes nothing
abbrev pub settled : Plain → Allocation → Bool → Result ℕ Refusal → Plain
settled p a placed (Ok count) = with_standing p a placed
settled p a placed (Err e) = p
