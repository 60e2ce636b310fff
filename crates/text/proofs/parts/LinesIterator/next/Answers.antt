use Rattle.std.proofs.Common.{◌≡◌, ◌<◌, ◌∷◌, length, ap, sym, refl, ◌∙◌, arith, rules}
use Rattle.std.proofs.lemmas.Bool.Decides.{nat_tests}
use Rattle.text.specs.Parts.{lines_of}
use Rattle.text.specs.Lines.{lines_left}
use Rattle.text.proofs.Splits.{line_first, rest_shorter, no_lines}
use Rattle.text.proofs.parts.LinesIterator.next.Goals as goal

pub returns-then-is_empty-clause-steps : goal.returns-then-is_empty-clause-steps
returns-then-is_empty-clause-steps c = (no_lines c.args.self.now.rest.now (grind (arith, nat_tests)), refl)

first_left : (c : goal.After-result-1) → lines_left c.args.self.now ≡ c.cut_line.result.0.now ∷ lines_of c.unwrap_or-rest.result.now
first_left c =
    let some : 0 < length c.args.self.now.rest.now = grind (arith, nat_tests) in
    line_first c.args.self.now.rest.now c.cut_line.result.0.now c.cut_line.result.1 _ some c.cut_line.ensures.first c.cut_line.ensures.rest refl ∙ ap (λ x. c.cut_line.result.0.now ∷ lines_of x.now) (sym c.unwrap_or-rest.ensures)

pub returns-clause-steps : goal.returns-clause-steps
returns-clause-steps c =
    let shorter = rest_shorter c.args.self.now.rest.now c.cut_line.result.0.now c.cut_line.result.1 _ c.unwrap_or-rest.result c.cut_line.ensures.rest refl c.unwrap_or-rest.ensures in
    (first_left c, refl, refl, refl, omega (arith, shorter))

pub returns-clause-goes : goal.returns-clause-goes
returns-clause-goes c =
    let fewer : length (lines_of c.unwrap_or-rest.result.now) < length (lines_left c.args.self.now) = omega (arith, ap length (first_left c)) in
    search rules
