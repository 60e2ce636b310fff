use Rattle.std.proofs.Common.{rules}
use Rattle.std.proofs.lemmas.List.{set-append_left}
use Rattle.values.proofs.Cells.{set_right}
use Rattle.values.proofs.frame.BankedFrame.write.Goals as goal

pub returns-in-Some-clause-cells : goal.returns-in-Some-clause-cells
returns-in-Some-clause-cells g c = search (rules, set_right)

pub returns-in-None-clause-cells : goal.returns-in-None-clause-cells
returns-in-None-clause-cells g c = search (rules, set-append_left)
