-- Laws of reading one line.
use Rattle.std.proofs.Common.{◌≡◌, ℕ, ◌<◌, List, length, drop, Some, Err, IsSome, sym, arith}
use Rattle.text.specs.Parts.{fields_of}
use Rattle.text.specs.Fields.{shape_of, shapes_of, first_word, by_word}
use Rattle.text.specs.declared.fields.Fault.TheVariants as fault
use Rattle.text.proofs.FieldLaws.{first_refused, first_known}
use Rattle.std.proofs.lemmas.List.{length-map}
use Rattle.allocation.specs.declared.heading.Heading.{Heading}
use Rattle.allocation.specs.declared.words.Word.{Word}
use Rattle.allocation.specs.declared.words.Word.TheVariants.{Move, Skip, Const, Binary, Call, Branch, Return}
use Rattle.allocation.specs.Words.{word_name, words}
use Rattle.allocation.specs.Items.{arity, operands_of, item_of}

few_operands : (w : Word) → arity w < 5
few_operands (Move e) = omega arith
few_operands Skip = omega arith
few_operands Const = omega arith
few_operands (Binary o) = omega arith
few_operands Call = omega arith
few_operands Branch = omega arith
few_operands Return = omega arith

module _ (h : Heading) (line : List ℕ) where
  -- no word that is known has the line's fields
  pub item_refused : (IsSome (first_word word_name words (shapes_of line)) → 5 < length (fields_of line)) → Err fault.Word ≡ item_of h (fields_of line)
  unfolding item_of
  item_refused many = sym (first_refused word_name words arity (operands_of h) 5 few_operands (shapes_of line) (λ s. omega (arith, many s, length-map (fields_of line) shape_of)))

  pub item_known : (w : Word) → first_word word_name words (shapes_of line) ≡ Some w → by_word word_name words arity (operands_of h) (Some w) (drop 1 (shapes_of line)) ≡ item_of h (fields_of line)
  unfolding item_of
  item_known w e = sym (first_known word_name words arity (operands_of h) w (shapes_of line) e)
