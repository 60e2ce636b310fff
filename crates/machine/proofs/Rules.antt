-- The rules of a run, as equations, and that runs compose.
use Rattle.std.proofs.Common.{◌≡◌, ℕ, zero, suc, ◌+◌, Bool, true, false, sym, refl, ap, ◌∙◌, ⊎_elim, suc-add, zero-add}
use Rattle.std.proofs.lemmas.Bool.{cases_Bool}
use Rattle.values.specs.Kinds.{Arithmetic}
use Rattle.values.specs.Hosts.{Answers}
use Rattle.machine.specs.declared.outcome.Outcome.{Outcome}
use Rattle.machine.specs.Machine.{Log, Progress, goes, ends, after, drive, full, source_step, allocated_step}
use Rattle.machine.specs.Laws.{then_on, Composes}

module _ {V S M : Type 0} (full : Log V S → Bool) (step : Log V S → M → Progress V S M) where
  pub drive_full : (n : ℕ) (p : Log V S) (m : M) → full p ≡ true → drive full step (suc n) p m ≡ record { outcome = Outcome.Full; log = p; memory = m }
  drive_full n p m e = rw (e, drive)

  pub drive_step : (n : ℕ) (p : Log V S) (m : M) → full p ≡ false → drive full step (suc n) p m ≡ after (step p m) (λ q w. drive full step n q w)
  drive_step n p m e = rw (e, drive)

  pub drive_plus : (a b : ℕ) (p : Log V S) (m : M) → drive full step (a + b) p m ≡ then_on (drive full step a p m) (drive full step b)
  drive_plus zero b p m = ap (λ n. drive full step n p m) (zero-add b)
  drive_plus (suc a) b p m =
      ap (λ n. drive full step n p m) (suc-add a b) ∙ ⊎_elim (λ e. drive_full (a + b) p m e ∙ sym (ap (λ x. then_on x (drive full step b)) (drive_full a p m e))) (λ e. drive_step (a + b) p m e ∙ go (λ q w. drive_plus a b q w) (step p m) ∙ sym (ap (λ x. then_on x (drive full step b)) (drive_step a p m e))) (cases_Bool (full p))
    where
      go : ((q : Log V S) (w : M) → drive full step (a + b) q w ≡ then_on (drive full step a q w) (drive full step b)) → (t : Progress V S M) → after t (λ q w. drive full step (a + b) q w) ≡ then_on (after t (λ q w. drive full step a q w)) (drive full step b)
      go again (goes q w) = again q w
      go again (ends v q w) = refl

pub composes : {V S : Type 0} (K : Arithmetic V) (E : Answers S V) → Composes K E
composes K E = record {
  source = λ s room j k p f. drive_plus (full K E s room) (source_step K E s) j k p f;
  allocated = λ s a room j k p c. drive_plus (full K E s room) (allocated_step K E s a) j k p c;
}
