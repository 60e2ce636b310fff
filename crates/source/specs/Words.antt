-- The words of a source text, as they are written.
use Rattle.std.specs.Prelude.{ℕ, List, [], ◌∷◌, codes}
use Rattle.source.specs.declared.node.Operation.{Operation}
use Rattle.source.specs.declared.node.Operation.TheVariants.{Add, Sub, Mul, Min, Max}
use Rattle.source.specs.declared.node.Condition.{Condition}
use Rattle.source.specs.declared.node.Condition.TheVariants.{Eq, Lt, Le}
use Rattle.source.specs.declared.words.Opcode.{Opcode}
use Rattle.source.specs.declared.words.Opcode.TheVariants.{Const, Mov, Binary, Call, Branch, Return}

abbrev pub operation_name : Operation → List ℕ
operation_name Add = codes "add"
operation_name Sub = codes "sub"
operation_name Mul = codes "mul"
operation_name Min = codes "min"
operation_name Max = codes "max"

abbrev pub condition_name : Condition → List ℕ
condition_name Eq = codes "eq"
condition_name Lt = codes "lt"
condition_name Le = codes "le"

abbrev pub opcode_name : Opcode → List ℕ
opcode_name Const = codes "const"
opcode_name Mov = codes "mov"
opcode_name (Binary o) = operation_name o
opcode_name Call = codes "call"
opcode_name Branch = codes "br"
opcode_name Return = codes "ret"

unfoldable pub opcodes : List Opcode
opcodes = Const ∷ Mov ∷ Binary Add ∷ Binary Sub ∷ Binary Mul ∷ Binary Min ∷ Binary Max ∷ Call ∷ Branch ∷ Return ∷ []

abbrev pub conditions : List Condition
conditions = Eq ∷ Lt ∷ Le ∷ []
