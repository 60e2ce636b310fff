use Rattle.std.proofs.Common.{◌≡◌, ◌≤◌, length, drop, ap, inl, ◌∙◌, arith, rules}
use Rattle.std.proofs.lemmas.List.{take_rest, drop_all}
use Rattle.text.specs.Parts.{lines_of}
use Rattle.text.proofs.Splits.{few_lines, lines_none}
use Rattle.text.proofs.Rows.{lines_counted}
use Rattle.text.proofs.parts.count_lines.Goals as goal

pub count-requires-clause-fits : goal.count-requires-clause-fits
count-requires-clause-fits c = inl (omega (arith, few_lines c.of.result.rest.now, c.of.result.within))

pub returns-in-Some : goal.returns-in-Some
returns-in-Some c =
    let counted = lines_counted c.of.result c.count.result c.count.ensures.ran in
    let left = c.of.ensures.lines ∙ ap lines_of (c.in-Some.ensures.lookup.0.2 ∙ take_rest c.args.text.now c.args.at) in
    let count : c.count.result ≡ length (lines_of (drop c.args.at c.args.text.now)) = counted ∙ ap length left in
    search rules

pub returns-in-None : goal.returns-in-None
returns-in-None c =
    let past : length c.args.text.now ≤ c.args.at = omega (arith, c.in-None.ensures.lookup.0) in
    let none : length (lines_of (drop c.args.at c.args.text.now)) ≡ 0 = ap length (ap lines_of (drop_all c.args.at c.args.text.now past) ∙ lines_none) in
    search rules
