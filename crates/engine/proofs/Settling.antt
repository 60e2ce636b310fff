-- What is accepted stands, and what is refused changes nothing.
use Rattle.std.proofs.Common.{◌≡◌, ℕ, Bool, true, false, List, [], Some, None, Ok, Err, Option, sym, refl, ap, subst, subst₂}
use Rattle.std.proofs.lemmas.Bool.{both_ways}
use Rattle.std.specs.Option.{option_map}
use Rattle.refusal.specs.declared.Refusal.TheVariants.{NoSource, Unplaced}
use Rattle.source.specs.declared.heading.Heading.{Heading}
use Rattle.source.specs.declared.node.Node.{Node}
use Rattle.source.specs.declared.table.Table.{Table}
use Rattle.source.specs.Reading.{Source}
use Rattle.source.specs.Tables.{nodes_in, source_in}
use Rattle.allocation.specs.declared.tables.Tables.{Tables}
use Rattle.allocation.specs.Allocations.{Allocation, allocation_of, nothing}
use Rattle.offer.specs.Offers.{Offered}
use Rattle.places.specs.declared.place.Place.{Place}
use Rattle.placement.specs.Placements.{Placed}
use Rattle.engine.specs.declared.standing.Standing as standing
use Rattle.engine.specs.Plain.{Plain}
use Rattle.engine.specs.Stands.{Stands}
use Rattle.engine.specs.Calls.{OfferMade, PlaceMade}

-- 20 is no
pub none_offered : (p : Plain) (bs words : List ℕ) → p.loaded ≡ None → OfferMade p bs words words (Err NoSource) p
none_offered p bs words e = record { allocation = nothing; offered = subst (λ (o : Option Source). Offered o bs words nothing words (Err NoSource)) (sym e) (refl, refl); held = refl }

some_same : {A : Type 0} {x y : A} → Some x ≡ Some y → x ≡ y
some_same {A} {x} {y} e = ap (λ (o : Option A). or o) e
  where
    or : Option A → A
    or None = x
    or (Some z) = z

-- the tables of a source copied, and those of an allocation exchanged, are those that were accepted
module _ (h : Heading) (table copied : Table) (held-tables tables : Tables) (placed : Bool) where
  pub stands : nodes_in copied ≡ nodes_in table → tables ≡ held-tables → Stands (source_in h table) (allocation_of held-tables) placed
      → (x : standing.Standing) → ◌≡◌ {A = Option standing.Standing} (Some (record { source = h; placed = placed })) (Some x) → ∥ Stands (source_in x.source copied) (allocation_of tables) x.placed ∥₁
  stands same is st x e =
      ∣ subst (λ (y : standing.Standing). Stands (source_in y.source copied) (allocation_of tables) y.placed) (some_same e)
      (subst₂ (λ (ns : List Node) (t : Tables). Stands (record { parameters = h.parameters; temporaries = h.temporaries; nodes = ns }) (allocation_of t) placed) (sym same) (sym is) st) ∣₁

-- an accepted offer
pub offer_stands : (loaded : Option Heading) (h : Heading) (table : Table) (bs words words' : List ℕ) (a : Allocation) (count : ℕ) → loaded ≡ Some h
    → Offered (option_map (λ x. source_in x table) loaded) bs words a words' (Ok count) → Stands (source_in h table) a false
offer_stands loaded h table bs words words' a count is o =
    let k = subst (λ (x : Option Heading). Offered (option_map (λ x. source_in x table) x) bs words a words' (Ok count)) is o in
    record { fits = k.fits; size = _; sets = _; accepted = k.accepted; few = λ e. absurd (both_ways false refl e) }

-- 40 is no
pub none_placed : (places : Source → (ℕ → ℕ → Bool) → ℕ → List Place) (p : Plain) (R : ℕ) (words : List ℕ) → p.loaded ≡ None → PlaceMade places p R words words (Err Unplaced) p
none_placed places p R words e = record { live = []; allocation = nothing; placed = subst (λ (o : Option Source). Placed places o [] R words nothing words (Err Unplaced)) (sym e) (refl, refl); held = refl }

-- an accepted placement
pub place_stands : (places : Source → (ℕ → ℕ → Bool) → ℕ → List Place) (loaded : Option Heading) (h : Heading) (table : Table) (live : List ℕ) (R : ℕ) (words words' : List ℕ) (a : Allocation) (count : ℕ) → loaded ≡ Some h
    → Placed places (option_map (λ x. source_in x table) loaded) live R words a words' (Ok count) → Stands (source_in h table) a true
place_stands places loaded h table live R words words' a count is o =
    let k = subst (λ (x : Option Heading). Placed places (option_map (λ x. source_in x table) x) live R words a words' (Ok count)) is o in
    record { fits = k.fits; size = _; sets = _; accepted = k.accepted; few = λ _. k.few }
