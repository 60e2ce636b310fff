-- Laws of reading one line.
use Rattle.std.proofs.Common.{◌≡◌, ℕ, ◌<◌, List, length, drop, Some, Err, IsSome, sym, arith}
use Rattle.text.specs.Parts.{fields_of}
use Rattle.text.specs.Fields.{shape_of, shapes_of, first_word, by_word}
use Rattle.text.specs.declared.fields.Fault.TheVariants as fault
use Rattle.text.proofs.FieldLaws.{first_refused, first_known}
use Rattle.std.proofs.lemmas.List.{length-map}
use Rattle.source.specs.declared.heading.Heading.{Heading}
use Rattle.source.specs.declared.words.Opcode.{Opcode}
use Rattle.source.specs.declared.words.Opcode.TheVariants.{Const, Mov, Binary, Call, Branch, Return}
use Rattle.source.specs.Words.{opcode_name, opcodes}
use Rattle.source.specs.Reading.{arity, operands_of, node_of}

few_operands : (o : Opcode) → arity o < 6
few_operands Const = omega arith
few_operands Mov = omega arith
few_operands (Binary o) = omega arith
few_operands Call = omega arith
few_operands Branch = omega arith
few_operands Return = omega arith

module _ (h : Heading) (line : List ℕ) where
  -- no word that is known has the line's fields
  pub node_refused : (IsSome (first_word opcode_name opcodes (shapes_of line)) → 6 < length (fields_of line)) → Err fault.Word ≡ node_of h line
  unfolding node_of
  node_refused many = sym (first_refused opcode_name opcodes arity (operands_of h) 6 few_operands (shapes_of line) (λ s. omega (arith, many s, length-map (fields_of line) shape_of)))

  pub node_known : (o : Opcode) → first_word opcode_name opcodes (shapes_of line) ≡ Some o → by_word opcode_name opcodes arity (operands_of h) (Some o) (drop 1 (shapes_of line)) ≡ node_of h line
  unfolding node_of
  node_known o e = sym (first_known opcode_name opcodes arity (operands_of h) o (shapes_of line) e)
