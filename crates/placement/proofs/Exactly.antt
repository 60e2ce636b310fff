-- Which placements are accepted, and that each has one answer.
use Rattle.std.proofs.Common.{◌≡◌, ℕ, ◌*◌, ◌<◌, ◌≤◌, Bool, ◌⊎◌, List, length, Some, None, Ok, Err, Option, Result, sym, ap, ◌∙◌, inl, inr, arith}
use Rattle.refusal.specs.declared.Refusal.{Refusal}
use Rattle.source.specs.Reading.{Source}
use Rattle.allocation.specs.Allocations.{Allocation}
use Rattle.allocation.specs.Lines.{move_count}
use Rattle.places.specs.declared.place.Place.{Place}
use Rattle.placement.specs.Placements.{Placed, RefusedRegisters, RefusedMemory, Suits, Granted, AcceptedExactly, OneAnswer}

too_short : (n size : ℕ) → size < n → n ≤ size → ⊥
too_short n size h k = omega arith

module _ (places : Source → (ℕ → ℕ → Bool) → ℕ → List Place) where
  -- what is refused does not suit
  unsuited : (s : Source) (live : List ℕ) (R : ℕ) (words words' : List ℕ) (e : Refusal) → RefusedRegisters places s live R words words' e ⊎ RefusedMemory places s live R words words' e → Suits (Some s) R (length words) → ⊥
  unsuited s live R words words' e (inl f) h = f.outside h.0
  unsuited s live R words words' e (inr f) h = too_short (64 * length s.nodes) (length words) f.room h.1

  exactly : (o : Option Source) (live : List ℕ) (R : ℕ) (words words' : List ℕ) (t : Allocation) (r : Result ℕ Refusal) → Placed places o live R words t words' r → (Granted r → Suits o R (length words)) × (Suits o R (length words) → Granted r)
  exactly None live R words words' t (Ok n) p = absurd p
  exactly None live R words words' t (Err e) p = (λ g. g, λ h. h)
  exactly (Some s) live R words words' t (Ok n) p = (λ g. (p.registers, p.room), λ h. tt)
  exactly (Some s) live R words words' t (Err e) p = (λ g. absurd g, λ h. unsuited s live R words words' e p h)

  one_refusal : (s : Source) (live : List ℕ) (R : ℕ) (words left left' : List ℕ) (e f : Refusal) → RefusedRegisters places s live R words left e ⊎ RefusedMemory places s live R words left e
      → RefusedRegisters places s live R words left' f ⊎ RefusedMemory places s live R words left' f → e ≡ f
  one_refusal s live R words left left' e f (inl p) (inl q) = p.is ∙ sym q.is
  one_refusal s live R words left left' e f (inl p) (inr q) = absurd (p.outside q.registers)
  one_refusal s live R words left left' e f (inr p) (inl q) = absurd (q.outside p.registers)
  one_refusal s live R words left left' e f (inr p) (inr q) = p.is ∙ sym q.is

  one : (o : Option Source) (live : List ℕ) (R : ℕ) (words left left' : List ℕ) (t t' : Allocation) (r r' : Result ℕ Refusal) → Placed places o live R words t left r → Placed places o live R words t' left' r' → r ≡ r'
  one None live R words left left' t t' (Ok n) r' p q = absurd p
  one None live R words left left' t t' (Err e) (Ok n) p q = absurd q
  one None live R words left left' t t' (Err e) (Err f) p q = ap Err (p.0 ∙ sym q.0)
  one (Some s) live R words left left' t t' (Ok m) (Ok n) p q = ap Ok (p.moves ∙ ap move_count (p.published ∙ sym q.published) ∙ sym q.moves)
  one (Some s) live R words left left' t t' (Ok m) (Err f) p q = absurd (unsuited s live R words left' f q (p.registers, p.room))
  one (Some s) live R words left left' t t' (Err e) (Ok n) p q = absurd (unsuited s live R words left e p (q.registers, q.room))
  one (Some s) live R words left left' t t' (Err e) (Err f) p q = ap Err (one_refusal s live R words left left' e f p q)

pub accepted_exactly_lem : AcceptedExactly
accepted_exactly_lem places o live R words words' t r p = exactly places o live R words words' t r p

pub one_answer : OneAnswer
one_answer places o live R words left left' t t' r r' p q = one places o live R words left left' t t' r r' p q
