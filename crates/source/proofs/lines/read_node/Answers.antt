use Rattle.std.proofs.Common.{map, Some, ap, ◌∙◌}
use Rattle.text.specs.Fields.{shape, by_word}
use Rattle.source.specs.Words.{opcode_name, opcodes}
use Rattle.source.specs.Reading.{arity, operands_of}
use Rattle.source.proofs.OneLine.{node_refused, node_known}
use Rattle.source.proofs.lines.read_node.Goals as goal

pub returns-in_default : goal.returns-in_default
unfolding opcodes
returns-in_default c = node_refused c.args.h c.args.line.now.bytes.now c.in_default.ensures.few

pub returns : goal.returns
unfolding opcodes
returns c =
    c.read_operands.ensures ∙ ap (λ fs. by_word opcode_name opcodes arity (operands_of c.args.h) (Some c.in-Some.opcode) fs) (ap (map shape) c.as_slice.ensures.value ∙ c.in-Some.ensures.rest)
    ∙ node_known c.args.h c.args.line.now.bytes.now c.in-Some.opcode c.in-Some.ensures.word
