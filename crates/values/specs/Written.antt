-- How values are written.
use Rattle.std.specs.Prelude.{ℕ, ◌^◌, cond, List, Some, None, codes, decimal, Option, nat_lt}
use Rattle.std.specs.Option.{option_map, option_and_then}
use Rattle.std.specs.Str.{bytes_eq}
use Rattle.text.specs.Number.{number_of}
use Rattle.values.specs.declared.word.Word.{Word}
use Rattle.values.specs.declared.word.BlankWord.{BlankWord}

-- a word is a number of 32 bits
abbrev pub word_of : List ℕ → Option Word
word_of bs = option_and_then (λ n. cond (nat_lt n (2 ^ 32)) (Some (record { 0 = n })) None) (number_of bs)

-- a blank is `-`
abbrev pub blank_word_of : List ℕ → Option BlankWord
blank_word_of bs = cond (bytes_eq bs (codes "-")) (Some (record { 0 = None })) (option_map (λ w. record { 0 = Some w }) (word_of bs))

abbrev pub written_option : Option Word → List ℕ
written_option None = codes "-"
written_option (Some w) = decimal w.0

abbrev pub written : BlankWord → List ℕ
written b = written_option b.0
