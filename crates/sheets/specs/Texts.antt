-- The worked source: its text, and what it is read as.
use Rattle.std.specs.Prelude.{ℕ, List, [], ◌∷◌, codes}
use Rattle.source.specs.Reading.{Source}
use Rattle.source.specs.declared.node.Operation.TheVariants.{Add}
use Rattle.source.specs.declared.node.Condition.TheVariants.{Lt}
use Rattle.source.specs.declared.node.Node.TheVariants.{Mov, Binary, Call, Branch, Return}

-- a line of fields, from its words
abbrev pub text_a : List ℕ
text_a = codes "source\t2\t4\t5\nadd\t2\t0\t1\t1\nmov\t3\t2\t2\nbr\tlt\t3\t0\t3\t4\ncall\t3\t7\t3\t1\t4\nret\t3\n"

abbrev pub source_a : Source
source_a = record { parameters = 2; temporaries = 4; nodes = Binary Add 2 0 1 1 ∷ Mov 3 2 2 ∷ Branch Lt 3 0 3 4 ∷ Call 3 7 3 1 4 ∷ Return 3 ∷ [] }
