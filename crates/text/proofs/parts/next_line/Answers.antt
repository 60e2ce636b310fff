use Rattle.std.proofs.Common.{rules}
use Rattle.std.proofs.lemmas.List.{take_rest}
use Rattle.text.proofs.Splits.{lines_at}
use Rattle.text.proofs.parts.next_line.Goals as goal

pub returns-clause-cut : goal.returns-clause-cut
returns-clause-cut c =
    let line = lines_at c.args.text.now c.args.at _ c.cut_line.result.0.now c.cut_line.result.1 (take_rest c.args.text.now c.args.at) c.requires c.cut_line.ensures.first c.cut_line.ensures.rest in
    search rules
