use Rattle.determinacy.proofs.Once.{one_run_lem}
use Rattle.determinacy.proofs.one_run.Goals as goal

pub returns : goal.returns
returns g c = one_run_lem g.V.Kind.arithmetic g.H.Host.means
