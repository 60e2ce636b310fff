-- Values that are there.
use Rattle.std.proofs.Common.{◌≡◌, Some, None, Option, refl, arith}
use Rattle.text.specs.Fields.{and_then}

pub and_then-some : {A B : Type 0} (o : Option A) (f : A → Option B) (b : B) → and_then o f ≡ Some b → (a : A) × (o ≡ Some a) × (f a ≡ Some b)
and_then-some None f b e = grind arith
and_then-some (Some a) f b e = (a, refl, e)
