-- The words of an allocation text, as they are written.
use Rattle.std.specs.Prelude.{ℕ, List, [], ◌∷◌, codes}
use Rattle.source.specs.declared.node.Operation.TheVariants.{Add, Sub, Mul, Min, Max}
use Rattle.source.specs.Words.{operation_name}
use Rattle.allocation.specs.declared.words.Edge.{Edge}
use Rattle.allocation.specs.declared.words.Edge.TheVariants.{Entry, In, Out, Alt}
use Rattle.allocation.specs.declared.words.Word.{Word}
use Rattle.allocation.specs.declared.words.Word.TheVariants.{Move, Skip, Const, Binary, Call, Branch, Return}

abbrev pub edge_name : Edge → List ℕ
edge_name Entry = codes "entry"
edge_name In = codes "in"
edge_name Out = codes "out"
edge_name Alt = codes "alt"

abbrev pub word_name : Word → List ℕ
word_name (Move e) = edge_name e
word_name Skip = codes "skip"
word_name Const = codes "const"
word_name (Binary o) = operation_name o
word_name Call = codes "call"
word_name Branch = codes "br"
word_name Return = codes "ret"

unfoldable pub words : List Word
words = Move Entry ∷ Move In ∷ Move Out ∷ Move Alt ∷ Skip ∷ Const ∷ Binary Add ∷ Binary Sub ∷ Binary Mul ∷ Binary Min ∷ Binary Max ∷ Call ∷ Branch ∷ Return ∷ []
