use Rattle.std.proofs.Common.{◌≡◌, length, Ok, Err, MatchResult, sym, ap, ◌∙◌, arith, rules}
use Rattle.text.specs.Lines.{lines_left}
use Rattle.source.specs.Reading.{read_nodes, refused}
use Rattle.source.proofs.WholeText.{after, read_on, read_stops, read_ends}
use Rattle.source.proofs.reader.read_lines.Goals as goal

pub returns-in_err-node-clause-read : goal.returns-in_err-node-clause-read
returns-in_err-node-clause-read c =
    let k : MatchResult c.read_node.result (λ x. c.map_err.result ≡ Ok x) (λ e. c.map_err.result ≡ Err (refused c.in-Some.line.number e)) = search rules in
    let s = c.in-Some.ensures.steps in
    let stops : read_nodes c.args.h c.args.lines.number (lines_left c.args.lines) ≡ Err c.in_err-node.field-0.0 =
    sym c.loop-line.invariant.0 ∙ read_stops c.args.h c.loop-line.line-iterator.number s.0 c.loop-line.nodes.items c.read_node.result c.map_err.result c.in-Some.line.number _ c.read_node.ensures s.2 k c.in_err-node.was in
    search rules

pub loop-line-preserved : goal.loop-line-preserved
loop-line-preserved c =
    let h : c.read_node.result ≡ Ok c.in_ok-node.node = search rules in
    let s = c.in-Some.ensures.steps in
    let shorter = ap length s.0 in (
      (λ i. after (c.push_reserved.ensures.items i) (read_nodes c.args.h (s.3 i) (lines_left c.next.new.self)))
          ∙ sym (read_on c.args.h c.loop-line.line-iterator.number s.0 c.loop-line.nodes.items c.in_ok-node.node (sym h ∙ c.read_node.ensures)) ∙ c.loop-line.invariant.0,
      omega arith,
      omega arith,
    )

pub returns-clause-read : goal.returns-clause-read
returns-clause-read c = sym c.loop-line.invariant.0 ∙ read_ends c.args.h c.loop-line.line-iterator.number c.loop-line.nodes.items _ c.in-None.ensures.steps.0
