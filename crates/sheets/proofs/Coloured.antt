-- The places of the worked source, by computation.
use Rattle.std.proofs.Common.{◌≡◌, [], ◌∷◌, refl}
use Rattle.sets.specs.Masks.{bit, count}
use Rattle.loader.specs.Live.{live_sets}
use Rattle.places.specs.declared.place.Place.TheVariants.{Home, Register}
use Rattle.colouring.specs.Colouring.{colouring}
use Rattle.sheets.specs.Texts.{source_a}

pub colours_a : colouring source_a (live_sets (3 ∷ 7 ∷ 11 ∷ 10 ∷ 8 ∷ [])) 4 ≡ Home ∷ Register 1 ∷ Register 0 ∷ Register 0 ∷ []
unfolding bit count
colours_a = refl
