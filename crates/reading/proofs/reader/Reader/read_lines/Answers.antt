use Rattle.std.proofs.Common.{◌≡◌, map, Ok, Err, sym, ap, ◌∙◌, subst, rules}
use Rattle.std.proofs.lemmas.Result.{MatchResult-weaker}
use Rattle.text.specs.Parts.{fields_of}
use Rattle.text.specs.Lines.{lines_left}
use Rattle.reading.specs.Reading.{run, one_line, finish}
use Rattle.reading.specs.States.{state}
use Rattle.reading.proofs.Runs.{run_more, run_stop, run_ends}
use Rattle.reading.proofs.ReadLaws.{Sound, fresh_sound, line_sound}
use Rattle.reading.proofs.Counted.{counted}
use Rattle.reading.proofs.reader.Reader.read_lines.Goals as goal

pub loop-line-preserved : goal.loop-line-preserved
loop-line-preserved c =
    let s = c.in-Some.ensures.steps in
    let one : one_line c.args.nodes c.loop-line.lines.number (state c.loop-line.self) (fields_of c.in-Some.line.bytes.now) ≡ Ok (state c.read_one.new.self) = ap (λ k. one_line c.args.nodes k (state c.loop-line.self) (fields_of c.in-Some.line.bytes.now)) (sym s.2) ∙ c.in_ok-read_one.ensures in (
      ap (run c.args.nodes (map fields_of (lines_left c.next.new.self)) (state c.read_one.new.self)) s.3
          ∙ sym (run_more c.args.nodes (state c.loop-line.self) c.loop-line.lines.number s.0 (state c.read_one.new.self) one) ∙ c.loop-line.invariant.0,
      λ first. line_sound c.args.nodes c.loop-line.lines.number (state c.loop-line.self) (state c.read_one.new.self) _ (c.loop-line.invariant.1 first) one,
    )

pub returns-in_err-read_one-clause-lines : goal.returns-in_err-read_one-clause-lines
returns-in_err-read_one-clause-lines c =
    let s = c.in-Some.ensures.steps in
    let one : one_line c.args.nodes c.loop-line.lines.number (state c.loop-line.self) (fields_of c.in-Some.line.bytes.now) ≡ Err c.in_err-read_one.field-0.0 = ap (λ k. one_line c.args.nodes k (state c.loop-line.self) (fields_of c.in-Some.line.bytes.now)) (sym s.2) ∙ c.in_err-read_one.ensures in
    let stops : run c.args.nodes (map fields_of (lines_left c.args.lines)) (state c.args.self.now) c.args.lines.number ≡ Err c.in_err-read_one.field-0.0 =
    sym c.loop-line.invariant.0 ∙ run_stop c.args.nodes (state c.loop-line.self) c.loop-line.lines.number s.0 _ one in
    search rules

pub returns : goal.returns
returns c =
    let same : c.number.result ≡ c.loop-line.lines.number = c.number.ensures ∙ ap (λ l. l.number) c.in_default.ensures.steps.1 in
    let t = sym c.loop-line.invariant.0 ∙ run_ends c.args.nodes (state c.loop-line.self) c.loop-line.lines.number (lines_left c.loop-line.lines) c.in_default.ensures.steps.0 ∙ ap (λ k. finish c.args.nodes k (state c.loop-line.self)) (sym same) in
    record {
      lines = MatchResult-weaker c.finish.result c.finish.ensures.end (λ x h. t ∙ h) (λ e h. t ∙ h);
      moves = λ h is few.
          let first : Sound c.args.nodes (state c.args.self.now) = subst (Sound c.args.nodes) (sym is) (fresh_sound c.args.nodes h few) in
          counted c.args.nodes c.number.result (state c.loop-line.self) c.finish.new.self c.finish.result (c.loop-line.invariant.1 first) c.finish.ensures.moves c.finish.ensures.end;
    }
