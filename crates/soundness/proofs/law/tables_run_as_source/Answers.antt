use Rattle.allocation.specs.Allocations.{allocation_of}
use Rattle.soundness.proofs.Located.{tables_located}
use Rattle.soundness.proofs.Simulation.{runs_as_source}
use Rattle.soundness.proofs.law.tables_run_as_source.Goals as goal

pub returns : goal.returns
returns g c s t size X fits acc = runs_as_source g.V.Kind.arithmetic g.H.Host.means s (allocation_of t) size X fits (tables_located t) acc
