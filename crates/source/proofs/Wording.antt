-- The words of a source text, read and written.
use Rattle.std.proofs.Common.{◌≡◌, ℕ, ◌<◌, ◌≤◌, length, Some, refl, arith}
use Rattle.text.specs.Words.{named}
use Rattle.text.specs.Fields.{word, shape_of, word_in}
use Rattle.text.proofs.TextLaws.{Lacks}
use Rattle.text.proofs.FieldLaws.{Inverse, word_inverse}
use Rattle.source.specs.declared.node.Operation.TheVariants.{Add, Sub, Mul, Min, Max}
use Rattle.source.specs.declared.node.Condition.{Condition}
use Rattle.source.specs.declared.node.Condition.TheVariants.{Eq, Lt, Le}
use Rattle.source.specs.declared.words.Opcode.{Opcode}
use Rattle.source.specs.declared.words.Opcode.TheVariants.{Const, Mov, Binary, Call, Branch, Return}
use Rattle.source.specs.Words.{opcode_name, condition_name, opcodes, conditions}

-- what holds of each opcode holds of all
each : (P : Opcode → Type 0) → P Const → P Mov → P (Binary Add) → P (Binary Sub) → P (Binary Mul) → P (Binary Min) → P (Binary Max) → P Call → P Branch → P Return → (o : Opcode) → P o
each P a b c d e f g h i j Const = a
each P a b c d e f g h i j Mov = b
each P a b c d e f g h i j (Binary Add) = c
each P a b c d e f g h i j (Binary Sub) = d
each P a b c d e f g h i j (Binary Mul) = e
each P a b c d e f g h i j (Binary Min) = f
each P a b c d e f g h i j (Binary Max) = g
each P a b c d e f g h i j Call = h
each P a b c d e f g h i j Branch = i
each P a b c d e f g h i j Return = j

opcode_plain : (o : Opcode) → shape_of (opcode_name o) ≡ word (opcode_name o)
opcode_plain = each (λ o. shape_of (opcode_name o) ≡ word (opcode_name o)) refl refl refl refl refl refl refl refl refl refl

opcode_found : (o : Opcode) → named opcode_name opcodes (opcode_name o) ≡ Some o
unfolding opcodes
opcode_found = each (λ o. named opcode_name opcodes (opcode_name o) ≡ Some o) refl refl refl refl refl refl refl refl refl refl

opcode_lacks : (b : ℕ) → b < 48 → (o : Opcode) → Lacks b (opcode_name o)
opcode_lacks b low = each (λ o. Lacks b (opcode_name o)) (omega arith) (omega arith) (omega arith) (omega arith) (omega arith) (omega arith) (omega arith) (omega arith) (omega arith) (omega arith)

pub opcode_short : (o : Opcode) → length (opcode_name o) ≤ 10
opcode_short = each (λ o. length (opcode_name o) ≤ 10) (omega arith) (omega arith) (omega arith) (omega arith) (omega arith) (omega arith) (omega arith) (omega arith) (omega arith) (omega arith)

pub opcode_inverse : Inverse (word_in opcode_name opcodes) opcode_name (λ _. Unit {0})
opcode_inverse = word_inverse opcode_name opcodes opcode_plain opcode_found opcode_lacks

condition_plain : (c : Condition) → shape_of (condition_name c) ≡ word (condition_name c)
condition_plain Eq = refl
condition_plain Lt = refl
condition_plain Le = refl

condition_found : (c : Condition) → named condition_name conditions (condition_name c) ≡ Some c
condition_found Eq = refl
condition_found Lt = refl
condition_found Le = refl

condition_lacks : (b : ℕ) → b < 48 → (c : Condition) → Lacks b (condition_name c)
condition_lacks b low Eq = omega arith
condition_lacks b low Lt = omega arith
condition_lacks b low Le = omega arith

pub condition_short : (c : Condition) → length (condition_name c) ≤ 10
condition_short Eq = omega arith
condition_short Lt = omega arith
condition_short Le = omega arith

pub condition_inverse : Inverse (word_in condition_name conditions) condition_name (λ _. Unit {0})
condition_inverse = word_inverse condition_name conditions condition_plain condition_found condition_lacks
