use Rattle.std.proofs.Common.{◌≡◌, ◌≤◌, map, None, MatchOption, sym, ap, ◌∙◌, arith, rules}
use Rattle.text.specs.Parts.{fields_of}
use Rattle.text.specs.Fields.{shapes_of}
use Rattle.text.specs.Lines.{lines_left}
use Rattle.allocation.specs.Headings.{heading_of}
use Rattle.reading.specs.Reading.{run}
use Rattle.reading.proofs.Runs.{not-sized, no_heading, with_heading}
use Rattle.reading.proofs.ReadLaws.{writes_back, reads_well}
use Rattle.reading.proofs.reader.Reader.read.Goals as goal

pub returns-then-not-is_sized-clause-read : goal.returns-then-not-is_sized-clause-read
returns-then-not-is_sized-clause-read c = not-sized c.args.parameters c.args.nodes c.args.text.now (search rules)

pub returns-in_default-clause-read : goal.returns-in_default-clause-read
returns-in_default-clause-read c =
    let head : MatchOption c.next.result (c.and_then.result ≡ None) (λ l. c.and_then.result ≡ heading_of c.args.parameters c.args.nodes (shapes_of l.bytes.now)) = search rules in
    no_heading c.args.parameters c.args.nodes c.args.text.now (search rules) c.of-lines.result c.next.new.self c.of-lines.ensures.lines c.next.result c.and_then.result c.next.ensures.steps head c.in_default.is

pub returns-in_err-read_lines-clause-read : goal.returns-in_err-read_lines-clause-read
returns-in_err-read_lines-clause-read c =
    let head : MatchOption c.next.result (c.and_then.result ≡ None) (λ l. c.and_then.result ≡ heading_of c.args.parameters c.args.nodes (shapes_of l.bytes.now)) = search rules in
    let e = with_heading c.args.parameters c.args.nodes c.args.text.now (search rules) c.of-lines.result c.next.new.self c.of-lines.ensures.lines c.next.result c.and_then.result c.in-Some.heading c.next.ensures.steps head c.in-Some.is c.of-lines.ensures.number
    ∙ ap (λ s. run c.args.nodes (map fields_of (lines_left c.next.new.self)) s c.next.new.self.number) (sym c.restart.ensures) ∙ c.in_err-read_lines.ensures.lines in
    search rules

pub returns : goal.returns
returns c =
    let head : MatchOption c.next.result (c.and_then.result ≡ None) (λ l. c.and_then.result ≡ heading_of c.args.parameters c.args.nodes (shapes_of l.bytes.now)) = search rules in
    let e = with_heading c.args.parameters c.args.nodes c.args.text.now (search rules) c.of-lines.result c.next.new.self c.of-lines.ensures.lines c.next.result c.and_then.result c.in-Some.heading c.next.ensures.steps head c.in-Some.is c.of-lines.ensures.number
    ∙ ap (λ s. run c.args.nodes (map fields_of (lines_left c.next.new.self)) s c.next.new.self.number) (sym c.restart.ensures) ∙ c.in_ok-read_lines.ensures.lines in
    let registers : c.in-Some.heading.registers ≤ 16 = search rules in
    let slots : c.in-Some.heading.slots ≤ 48 = search rules in
    record {
      read = e;
      heading = c.heading.ensures;
      formed = reads_well c.args.parameters c.args.nodes c.args.text.now _ e;
      text = writes_back c.args.parameters c.args.nodes c.args.text.now _ e;
      moves = c.in_ok-read_lines.ensures.moves c.in-Some.heading c.restart.ensures (omega arith);
    }
