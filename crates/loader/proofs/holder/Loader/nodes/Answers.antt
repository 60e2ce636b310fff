use Rattle.std.proofs.Common.{List, sym, subst}
use mathlib.Core.Bool.{Bool-set}
use mathlib.Core.Logic.{∥∥₁_elim}
use Rattle.source.specs.Nodes.{AllSound}
use Rattle.source.specs.declared.node.Node.{Node}
use Rattle.loader.proofs.holder.Loader.nodes.Goals as goal

pub returns : goal.returns
returns c = record {
  nodes = c.nodes.ensures;
  sound = λ h e. subst (λ (ns : List Node). AllSound h.temporaries ns) (sym c.nodes.ensures) (λ n l. ∥∥₁_elim (c.args.self.now.stands h e) (Bool-set _ _) (λ is. is.sound n l));
}
