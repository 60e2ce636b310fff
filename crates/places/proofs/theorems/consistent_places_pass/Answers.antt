use Rattle.places.proofs.Accept.{consistent_places_pass_lem}
use Rattle.places.proofs.theorems.consistent_places_pass.Goals as goal

pub returns : goal.returns
returns c = consistent_places_pass_lem
