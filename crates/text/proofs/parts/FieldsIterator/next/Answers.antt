use Rattle.std.proofs.Common.{◌≡◌, ◌<◌, ◌∷◌, length, ap, sym, ◌∙◌, arith, rules}
use Rattle.text.specs.Fields.{bytes, shape_of}
use Rattle.text.specs.Lines.{fields_in, fields_left}
use Rattle.text.proofs.Splits.{field_first}
use Rattle.text.proofs.parts.FieldsIterator.next.Goals as goal

pub returns-clause-steps : goal.returns-clause-steps
returns-clause-steps c =
    let rest = c.cut_field.result.1 in
    let text = c.of-field.ensures.bytes in
    let first : fields_left c.args.self.now ≡ bytes c.of-field.result ∷ fields_in rest =
    ap fields_in c.in_ok-self.was ∙ field_first _ c.cut_field.result.0.now rest c.cut_field.ensures.first c.cut_field.ensures.rest ∙ ap (λ f. f ∷ fields_in rest) (sym text) in
    let shape = c.of-field.ensures.shape ∙ ap shape_of (sym text) in
    let long = ap length text in
    search rules

pub returns-clause-goes : goal.returns-clause-goes
returns-clause-goes c =
    let rest = c.cut_field.result.1 in
    let first = ap fields_in c.in_ok-self.was ∙ field_first _ c.cut_field.result.0.now rest c.cut_field.ensures.first c.cut_field.ensures.rest in
    let fewer : length (fields_in rest) < length (fields_left c.args.self.now) = omega (arith, ap length first) in
    search rules
