use Rattle.std.proofs.Common.{◌≡◌, ◌+◌, ◌≤◌, min, length, None, Err, MatchOption, sym, ap, ◌∙◌, inl, arith, rules}
use Rattle.refusal.specs.declared.Refusal.TheVariants.{SourceLength}
use Rattle.text.specs.Fields.{shapes_of}
use Rattle.text.specs.Lines.{lines_left}
use Rattle.text.proofs.Splits.{few_lines}
use Rattle.text.proofs.Rows.{lines_counted}
use Rattle.source.specs.Reading.{heading_of}
use Rattle.source.proofs.SourceLaws.{few, heading_is, nodes_read, read_is_written, refused_exactly}
use Rattle.source.proofs.WholeText.{not-sized, no_heading, with_heading, wrong_length, right_length}
use Rattle.source.proofs.table.Table.read.Goals as goal

pub returns-then-not-is_sized : goal.returns-then-not-is_sized
returns-then-not-is_sized c = let e = not-sized c.args.text.now (search rules) in record { exact = refused_exactly _ _ e; count = tt; read = e }

pub returns-in_default : goal.returns-in_default
returns-in_default c =
    let read : MatchOption c.next.result (c.and_then.result ≡ None) (λ l. c.and_then.result ≡ heading_of (shapes_of l.bytes.now)) = search rules in
    let e = no_heading c.args.text.now (search rules) c.of-lines.result c.next.new.self c.of-lines.ensures.lines c.next.result c.and_then.result c.next.ensures.steps read c.in_default.is in
    record { exact = refused_exactly _ _ e; count = tt; read = e }

pub count-count-requires-clause-fits : goal.count-count-requires-clause-fits
count-count-requires-clause-fits c = inl (omega (arith, few_lines c.next.new.self.rest.now, c.next.new.self.within))

pub returns-then-count-wanted : goal.returns-then-count-wanted
returns-then-count-wanted c =
    let read : MatchOption c.next.result (c.and_then.result ≡ None) (λ l. c.and_then.result ≡ heading_of (shapes_of l.bytes.now)) = search rules in
    let (line, cut, is, two) = with_heading c.args.text.now (search rules) c.of-lines.result c.next.new.self c.of-lines.ensures.lines c.next.result c.and_then.result c.in-Some.h c.next.ensures.steps read c.in-Some.is c.of-lines.ensures.number in
    let count = lines_counted c.next.new.self c.count-count.result c.count-count.ensures.ran in
    let e =
    wrong_length c.args.text.now (search rules) cut c.in-Some.h is (λ e. c.if-count-wanted.true (count ∙ e))
    ∙ ap (λ n. Err (SourceLength n)) (sym (c.odd_line.ensures ∙ ap (λ n. min n c.in-Some.h.nodes + 2) count)) in
    record { exact = refused_exactly _ _ e; count = tt; read = e }

pub read_lines-requires-clause-room : goal.read_lines-requires-clause-room
read_lines-requires-clause-room c =
    let read : MatchOption c.next.result (c.and_then.result ≡ None) (λ l. c.and_then.result ≡ heading_of (shapes_of l.bytes.now)) = search rules in
    let (line, cut, is, two) = with_heading c.args.text.now (search rules) c.of-lines.result c.next.new.self c.of-lines.ensures.lines c.next.result c.and_then.result c.in-Some.h c.next.ensures.steps read c.in-Some.is c.of-lines.ensures.number in
    let count = lines_counted c.next.new.self c.count-count.result c.count-count.ensures.ran in
    let small = (heading_is c.in-Some.h line is).1.nodes_few in
    let room : length (lines_left c.next.new.self) ≤ 256 = omega (arith, c.if-count-wanted.false, count, small) in
    search rules

pub returns-in_err-read_lines-clause-exact : goal.returns-in_err-read_lines-clause-exact
returns-in_err-read_lines-clause-exact c =
    let read : MatchOption c.next.result (c.and_then.result ≡ None) (λ l. c.and_then.result ≡ heading_of (shapes_of l.bytes.now)) = search rules in
    let (line, cut, is, two) = with_heading c.args.text.now (search rules) c.of-lines.result c.next.new.self c.of-lines.ensures.lines c.next.result c.and_then.result c.in-Some.h c.next.ensures.steps read c.in-Some.is c.of-lines.ensures.number in
    let count = lines_counted c.next.new.self c.count-count.result c.count-count.ensures.ran in
    let e = right_length c.args.text.now (search rules) cut c.in-Some.h is c.next.new.self.number _ (sym count ∙ c.if-count-wanted.false) two c.in_err-read_lines.ensures.read in
    let none = refused_exactly _ _ e in
    search rules

pub returns-in_err-read_lines-clause-read : goal.returns-in_err-read_lines-clause-read
returns-in_err-read_lines-clause-read c =
    let read : MatchOption c.next.result (c.and_then.result ≡ None) (λ l. c.and_then.result ≡ heading_of (shapes_of l.bytes.now)) = search rules in
    let (line, cut, is, two) = with_heading c.args.text.now (search rules) c.of-lines.result c.next.new.self c.of-lines.ensures.lines c.next.result c.and_then.result c.in-Some.h c.next.ensures.steps read c.in-Some.is c.of-lines.ensures.number in
    let count = lines_counted c.next.new.self c.count-count.result c.count-count.ensures.ran in
    let e = right_length c.args.text.now (search rules) cut c.in-Some.h is c.next.new.self.number _ (sym count ∙ c.if-count-wanted.false) two c.in_err-read_lines.ensures.read in
    search rules

pub returns : goal.returns
returns c =
    let read : MatchOption c.next.result (c.and_then.result ≡ None) (λ l. c.and_then.result ≡ heading_of (shapes_of l.bytes.now)) = search rules in
    let (line, cut, is, two) = with_heading c.args.text.now (search rules) c.of-lines.result c.next.new.self c.of-lines.ensures.lines c.next.result c.and_then.result c.in-Some.h c.next.ensures.steps read c.in-Some.is c.of-lines.ensures.number in
    let count = lines_counted c.next.new.self c.count-count.result c.count-count.ensures.ran in
    let e = right_length c.args.text.now (search rules) cut c.in-Some.h is c.next.new.self.number _ (sym count ∙ c.if-count-wanted.false) two c.in_ok-read_lines.ensures.read in
    let head = (heading_is c.in-Some.h line is).1 in
    let long = (nodes_read c.in-Some.h (few c.in-Some.h head) _ _ _ c.in_ok-read_lines.ensures.read).long in
    record { exact = read_is_written _ _ e; count = long ∙ sym count ∙ c.if-count-wanted.false; read = e }
