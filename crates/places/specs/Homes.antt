-- All temporaries at home.
use Rattle.std.specs.Prelude.{◌≡◌, ℕ, ◌+◌, ◌≤◌, Bool, replicate, ◌≢◌, slice_index_or}
use Rattle.std.proofs.Common.{sym, ap, subst, inl, inr, arith}
use Rattle.std.proofs.lemmas.List.{length-replicate, get_or-replicate, get_or_past}
use Rattle.std.proofs.lemmas.Bool.{cases_lt}
use Rattle.source.specs.Reading.{Source}
use Rattle.places.specs.declared.place.Place.TheVariants.{Home}
use Rattle.places.specs.Places.{location, locations, homes, Owed}

pub getD_homes : (V v : ℕ) → slice_index_or (replicate V Home) v Home ≡ Home
getD_homes V v = elim (cases_lt v V) [ inl h ↦ get_or-replicate V v Home Home h | inr h ↦ get_or_past (replicate V Home) v Home (subst (λ (n : ℕ). n ≤ v) (sym (length-replicate V Home)) h) ]

home_location : (s : Source) (R v : ℕ) → locations R (homes s) v ≡ R + v
home_location s R v = ap (location R v) (getD_homes s.temporaries v)

never_one : (s : Source) (R u v : ℕ) → (u ≢ v) → locations R (homes s) u ≢ locations R (homes s) v
never_one s R u v ne e = ne (omega (arith, home_location s R u, home_location s R v))

pub homes_owed : (s : Source) (R : ℕ) (L : ℕ → ℕ → Bool) → Owed s R L (homes s)
homes_owed s R L =
    record { long = length-replicate s.temporaries Home; consistent = record { placed = λ v. inr (home_location s R v); apart = λ n h d v r o ne c. never_one s R v d ne; entry = λ u v hu hv lu lv ne. never_one s R u v ne }; unused = λ v h u. getD_homes s.temporaries v }
