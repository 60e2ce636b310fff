use Rattle.machine.proofs.Rules.{composes}
use Rattle.machine.proofs.run.runs_compose.Goals as goal

pub returns : goal.returns
returns g c = composes g.V.Kind.arithmetic g.H.Host.means
