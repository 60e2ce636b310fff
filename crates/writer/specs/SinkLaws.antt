-- A count of the room for bytes, and a buffer that bytes are added to, take bytes in order.
use Rattle.std.proofs.Common.{◌≡◌, ℕ, ◌+◌, ◌-◌, ◌≤◌, List, [], ◌++◌, length, take, drop, arith, ap}
use Rattle.std.proofs.lemmas.List.{length-append, length-take-le, length-drop}
use Rattle.text.specs.Put.{added}
use Rattle.text.proofs.Writing.{added_none, added_then}
use Rattle.writer.specs.Sinks.{AddedUpTo}

pub counted_none : (n : ℕ) → n + length {A = ℕ} [] ≡ n
counted_none n = omega arith

pub counted_both : (a b : List ℕ) (s t u : ℕ) → t + length a ≡ s → u + length b ≡ t → u + length (a ++ b) ≡ s
counted_both a b s t u p q = omega (arith, length-append a b)

pub added_nothing : (at : ℕ) (was : List ℕ) → at ≤ length was → AddedUpTo [] at was at was
added_nothing at was h = (omega arith, omega arith, added_none at was)

length_added : (at : ℕ) (a was : List ℕ) → at + length a ≤ length was → length (added at a was) ≡ length was
length_added at a was h =
    omega (arith, length-append (take at was) (a ++ drop (at + length a) was), length-append a (drop (at + length a) was), length-take-le at was (omega arith), length-drop (at + length a) was)

module _ (a b was mid out : List ℕ) (at next end : ℕ) where
  pub added_more : AddedUpTo a at was next mid → AddedUpTo b next mid end out → AddedUpTo (a ++ b) at was end out
  added_more p q = (
    omega (arith, length-append a b, ap length p.2, length_added at a was p.0, q.0),
    omega (arith, length-append a b, p.1, q.1),
    added_then at a b was mid out next p.0 p.2 p.1 q.2,
  )

pub added_left : (a was out : List ℕ) (at end : ℕ) → AddedUpTo a at was end out → (length out - end) + length a ≡ length was - at
added_left a was out at end w = omega (arith, ap length w.2, length_added at a was w.0, w.0, w.1)
