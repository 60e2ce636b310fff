use Rattle.std.proofs.Common.{refl}
use mathlib.Core.Bool.{Bool-set}
use mathlib.Core.Logic.{∥∥₁_elim}
use Rattle.loader.proofs.holder.Loader.table.Goals as goal

pub returns : goal.returns
returns c =
    let self = c.args.self.now in
    record {
      table = refl;
      sound = λ h e n l. ∥∥₁_elim (self.stands h e) (Bool-set _ _) (λ is. is.sound n l);
      few = self.few;
      some = self.some;
      long = self.long;
    }
