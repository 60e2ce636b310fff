use Rattle.soundness.proofs.Counting.{few_moves_a_node_lem}
use Rattle.soundness.proofs.law.few_moves_a_node.Goals as goal

pub returns : goal.returns
returns g c = few_moves_a_node_lem g.V.Kind.arithmetic g.H.Host.means
