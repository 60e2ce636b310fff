use Rattle.places.proofs.Accept.{consistent_places_pass_lem}
use Rattle.places.proofs.theorems.every_placer_passes.Goals as goal

pub returns : goal.returns
returns g c s L R ok low high =
    consistent_places_pass_lem s L R (g.P.Placer.places c.args.placer.now s L R) ok low high (g.met.P.Placer.lawful c.args.placer.now s L R low high ok.sound ok.live ok.entry).consistent
