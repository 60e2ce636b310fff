use Rattle.std.proofs.Common.{length}
use Rattle.soundness.proofs.Located.{well_located}
use Rattle.soundness.proofs.Simulation.{runs_as_source}
use Rattle.soundness.proofs.law.accepted_runs_as_source.Goals as goal

pub returns : goal.returns
returns g c s a size X fits well acc = runs_as_source g.V.Kind.arithmetic g.H.Host.means s a size X fits (well_located s.parameters (length s.nodes) a well) acc
