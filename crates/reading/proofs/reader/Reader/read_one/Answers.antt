use Rattle.std.proofs.Common.{◌≡◌, Ok, Err, MatchResult, sym, ap, ◌∙◌, rules}
use Rattle.std.proofs.lemmas.Result.{MatchResult-weaker}
use Rattle.text.specs.Parts.{fields_of}
use Rattle.allocation.specs.Items.{item_of}
use Rattle.reading.specs.Reading.{refused, one_line}
use Rattle.reading.specs.States.{state}
use Rattle.reading.proofs.Runs.{one_took, one_failed}
use Rattle.reading.proofs.reader.Reader.read_one.Goals as goal

pub returns-in_err-item : goal.returns-in_err-item
returns-in_err-item c =
    let k : MatchResult c.read_item.result (λ x. c.map_err.result ≡ Ok x) (λ e. c.map_err.result ≡ Err (refused c.args.line.now.number e)) = search rules in
    let e : one_line c.args.nodes c.args.line.now.number (state c.args.self.now) (fields_of c.args.line.now.bytes.now) ≡ Err c.in_err-item.field-0.0 =
    one_failed c.args.nodes c.args.line.now.number (state c.args.self.now) _ c.read_item.result c.map_err.result _ (c.read_item.ensures.value ∙ ap (λ h. item_of h (fields_of c.args.line.now.bytes.now)) c.heading.ensures) k c.in_err-item.was in
    search rules

pub returns : goal.returns
returns c =
    let h : c.read_item.result ≡ Ok c.in_ok-item.item = search rules in
    let t = one_took c.args.nodes c.args.line.now.number (state c.args.self.now) (fields_of c.args.line.now.bytes.now) _ (sym h ∙ c.read_item.ensures.value ∙ ap (λ h. item_of h (fields_of c.args.line.now.bytes.now)) c.heading.ensures) in
    MatchResult-weaker c.take_item.result c.take_item.ensures (λ x h. t ∙ h) (λ e h. t ∙ h)
