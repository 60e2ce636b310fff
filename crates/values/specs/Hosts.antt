-- What a host means, and the two hosts of the crate.
use Rattle.std.specs.Prelude.{ℕ, ◌%◌, cond, List, [], ◌∷◌, ◌==◌, nat_lt, slice_index, slice_set}
use Rattle.values.specs.declared.word.Word.{Word}
use Rattle.values.specs.Kinds.{Arithmetic}

-- for a state, a function and two values: one answer and one next state
pub record Answers (S V : Type 0) : Type 0 where
  pub answer : S → ℕ → V → V → V
  pub next : S → ℕ → V → V → S

-- a list's values in order, then `none`
abbrev pub script_answer : {V : Type 0} → V → List V → ℕ → V → V → V
script_answer none [] h a b = none
script_answer none (x ∷ xs) h a b = x

abbrev pub script_next : {V : Type 0} → List V → ℕ → V → V → List V
script_next [] h a b = []
script_next (x ∷ xs) h a b = xs

abbrev pub script : {V : Type 0} → Arithmetic V → Answers (List V) V
script K = record { answer = script_answer (K.constant 0); next = script_next }

-- functions 0 and 1 answer seat a modulo 64, any other 0
abbrev pub seats_answer : List ℕ → ℕ → Word → Word → Word
seats_answer row h a b = record { 0 = cond (nat_lt h 2) (slice_index row (a.0 % 64)) 0 }

-- function 1 stores b there
abbrev pub seats_next : List ℕ → ℕ → Word → Word → List ℕ
seats_next row h a b = cond (h == 1) (slice_set row (a.0 % 64) b.0) row

abbrev pub seats : Answers (List ℕ) Word
seats = record { answer = seats_answer; next = seats_next }
