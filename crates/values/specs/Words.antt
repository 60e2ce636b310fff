-- Words of 32 bits, and words that may be blank.
use Rattle.std.specs.Prelude.{ℕ, ◌+◌, ◌-◌, ◌*◌, ◌%◌, ◌^◌, min, max, Bool, false, Some, None, Option, ◌==◌, nat_le, nat_lt}
use Rattle.source.specs.declared.node.Operation.{Operation}
use Rattle.source.specs.declared.node.Operation.TheVariants.{Add, Sub, Mul, Min, Max}
use Rattle.source.specs.declared.node.Condition.{Condition}
use Rattle.source.specs.declared.node.Condition.TheVariants.{Eq, Lt, Le}
use Rattle.values.specs.declared.word.Word.{Word}
use Rattle.values.specs.declared.word.BlankWord.{BlankWord}
use Rattle.values.specs.Kinds.{Arithmetic}

-- modulo 2^32; the least and the greatest by the number
abbrev pub operate_numbers : Operation → ℕ → ℕ → ℕ
operate_numbers Add a b = (a + b) % 2 ^ 32
operate_numbers Sub a b = (a + 2 ^ 32 - b) % 2 ^ 32
operate_numbers Mul a b = (a * b) % 2 ^ 32
operate_numbers Min a b = min a b
operate_numbers Max a b = max a b

abbrev pub test_numbers : Condition → ℕ → ℕ → Bool
test_numbers Eq a b = a == b
test_numbers Lt a b = nat_lt a b
test_numbers Le a b = nat_le a b

abbrev pub words : Arithmetic Word
words = record { constant = λ k. record { 0 = k }; operate = λ o a b. record { 0 = operate_numbers o a.0 b.0 }; test = λ c a b. test_numbers c a.0 b.0 }

-- with a blank, an operation gives blank
abbrev pub operate_options : Operation → Option Word → Option Word → Option Word
operate_options o None b = None
operate_options o (Some a) None = None
operate_options o (Some a) (Some b) = Some (words.operate o a b)

-- with a blank, a test says no
abbrev pub test_options : Condition → Option Word → Option Word → Bool
test_options c None b = false
test_options c (Some a) None = false
test_options c (Some a) (Some b) = words.test c a b

abbrev pub blank_words : Arithmetic BlankWord
blank_words = record { constant = λ k. record { 0 = Some (words.constant k) }; operate = λ o a b. record { 0 = operate_options o a.0 b.0 }; test = λ c a b. test_options c a.0 b.0 }
