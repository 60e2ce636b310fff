-- Each call has one answer.
use Rattle.std.proofs.Common.{◌≡◌, ℕ, Bool, true, false, List, [], length, Some, None, Ok, Err, Option, Result, sym, ap, ◌∙◌, subst, inl, inr, arith}
use Rattle.std.proofs.lemmas.List.{get_or_past}
use Rattle.std.proofs.lemmas.Bool.{cases_lt}
use Rattle.refusal.specs.declared.Refusal.{Refusal}
use Rattle.sets.specs.Masks.{bit}
use Rattle.source.specs.Reading.{Source}
use Rattle.loader.specs.Live.{Liveness, live_sets}
use Rattle.loader.proofs.Answered.{one_answer}
use Rattle.loader.proofs.Flow.{liveness_unique}
use Rattle.allocation.specs.Allocations.{Allocation}
use Rattle.allocation.specs.Lines.{move_count}
use Rattle.equations.specs.Equations.{memory_sets}
use Rattle.equations.specs.Verdict.{Accepted, Refused}
use Rattle.verdict.proofs.Unique.{one_verdict_lem}
use Rattle.offer.specs.Offers.{Offered}
use Rattle.places.specs.declared.place.Place.{Place}
use Rattle.places.specs.Publish.{published_allocation}
use Rattle.placement.specs.Placements.{Placed}
use Rattle.values.specs.Kinds.{Arithmetic}
use Rattle.values.specs.Hosts.{Answers}
use Rattle.machine.specs.declared.outcome.Entry.{Entry}
use Rattle.machine.specs.declared.outcome.Report.{Report}
use Rattle.machine.specs.Machine.{Ending, Cells}
use Rattle.machine.specs.Run.{Answered, Finished}
use Rattle.engine.specs.Plain.{Standing, Plain, with_source, settled}
use Rattle.engine.specs.Calls.{LoadMade, OfferMade, PlaceMade, WriteMade}
use Rattle.determinacy.specs.Laws.{OneAnswerEach, SameRun, OneRun}

ok_err : {A B : Type 0} {x : A} {e : B} → Ok x ≡ Err e → ⊥
ok_err q = let z : ◌≡◌ {A = ℕ} 0 1 = cc in omega arith

ok_same : {A B : Type 0} {x y : A} → ◌≡◌ {A = Result A B} (Ok x) (Ok y) → x ≡ y
ok_same q = cc

err_same : {A B : Type 0} {e f : B} → ◌≡◌ {A = Result A B} (Err e) (Err f) → e ≡ f
err_same q = cc

load_once : (p q q' : Plain) (bs : List ℕ) (r r' : Result (ℕ × ℕ × ℕ) Refusal) → LoadMade p bs r q → LoadMade p bs r' q' → (r ≡ r') × (q ≡ q')
load_once p q q' bs (Ok c) (Ok d) x y =
    let same = (one_answer bs).granted x.source y.source x.live y.live c d x.granted y.granted in
    (ap Ok same.1, x.held ∙ ap (with_source p) same.0 ∙ sym y.held)
load_once p q q' bs (Ok c) (Err e) x y = absurd ((one_answer bs).never_both x.source x.live c e x.granted y.refused)
load_once p q q' bs (Err e) (Ok c) x y = absurd ((one_answer bs).never_both y.source y.live c e y.granted x.refused)
load_once p q q' bs (Err e) (Err f) x y = (ap Err ((one_answer bs).refused e f x.refused y.refused), x.held ∙ sym y.held)

module _ (bs words : List ℕ) where
  -- the allocations agree where the answers are both granted
  abbrev Agree : Result ℕ Refusal → Result ℕ Refusal → Allocation → Allocation → Type 0
  Agree (Ok n) (Ok m) a b = a ≡ b
  Agree (Ok n) (Err e) a b = Unit {0}
  Agree (Err e) (Ok n) a b = Unit {0}
  Agree (Err e) (Err f) a b = Unit {0}

  offered_once : (o : Option Source) (a b : Allocation) (left left' : List ℕ) (r r' : Result ℕ Refusal) → Offered o bs words a left r → Offered o bs words b left' r' → (r ≡ r') × Agree r r' a b
  offered_once None a b left left' (Ok n) r' x y = absurd x
  offered_once None a b left left' (Err e) (Ok n) x y = absurd y
  offered_once None a b left left' (Err e) (Err f) x y = (ap Err (x.0 ∙ sym y.0), tt)
  offered_once (Some s) a b left left' (Ok n) (Ok m) x y =
      let same = ok_same (sym x.read ∙ y.read) in
      (ap Ok (x.moves ∙ ap move_count same ∙ sym y.moves), same)
  offered_once (Some s) a b left left' (Ok n) (Err f) x (inl y) = absurd (ok_err (sym x.read ∙ y.read))
  offered_once (Some s) a b left left' (Ok n) (Err f) x (inr y) =
      let same = ok_same (sym y.read ∙ x.read) in
      absurd ((one_verdict_lem s b (length words) y.fits (memory_sets left') (memory_sets left) f y.refused).0 (subst (λ (z : Allocation). Accepted s z (length words) (memory_sets left)) (sym same) x.accepted))
  offered_once (Some s) a b left left' (Err e) (Ok m) (inl x) y = absurd (ok_err (sym y.read ∙ x.read))
  offered_once (Some s) a b left left' (Err e) (Ok m) (inr x) y =
      let same = ok_same (sym x.read ∙ y.read) in
      absurd ((one_verdict_lem s a (length words) x.fits (memory_sets left) (memory_sets left') e x.refused).0 (subst (λ (z : Allocation). Accepted s z (length words) (memory_sets left')) (sym same) y.accepted))
  offered_once (Some s) a b left left' (Err e) (Err f) (inl x) (inl y) = (ap Err (err_same (sym x.read ∙ y.read)), tt)
  offered_once (Some s) a b left left' (Err e) (Err f) (inl x) (inr y) = absurd (ok_err (sym y.read ∙ x.read))
  offered_once (Some s) a b left left' (Err e) (Err f) (inr x) (inl y) = absurd (ok_err (sym x.read ∙ y.read))
  offered_once (Some s) a b left left' (Err e) (Err f) (inr x) (inr y) =
      let same = ok_same (sym x.read ∙ y.read) in
      (ap Err ((one_verdict_lem s a (length words) x.fits (memory_sets left) (memory_sets left') e x.refused).1 f (subst (λ (z : Allocation). Refused s z (length words) (memory_sets left') f) (sym same) y.refused)), tt)

-- what is held after
after : (p q q' : Plain) (a b : Allocation) (placed : Bool) (bs words : List ℕ) (r r' : Result ℕ Refusal) → r ≡ r' → Agree bs words r r' a b → q ≡ settled p a placed r → q' ≡ settled p b placed r' → q ≡ q'
after p q q' a b placed bs words (Ok n) (Ok m) e same h k = h ∙ ap (λ (x : Allocation). settled p x placed (Ok m)) same ∙ sym k
after p q q' a b placed bs words (Ok n) (Err f) e same h k = absurd (ok_err e)
after p q q' a b placed bs words (Err e) (Ok m) q₁ same h k = absurd (ok_err (sym q₁))
after p q q' a b placed bs words (Err e) (Err f) q₁ same h k = h ∙ sym k

offer_once : (p q q' : Plain) (bs words left left' : List ℕ) (r r' : Result ℕ Refusal) → OfferMade p bs words left r q → OfferMade p bs words left' r' q' → (r ≡ r') × (q ≡ q')
offer_once p q q' bs words left left' r r' x y =
    let both = offered_once bs words p.loaded x.allocation y.allocation left left' r r' x.offered y.offered in
    (both.0, after p q q' x.allocation y.allocation false bs words r r' both.0 both.1 x.held y.held)

-- the masks of one source hold one family
one_family : (s : Source) (v w : List ℕ) → length v ≡ length s.nodes → length w ≡ length s.nodes → Liveness s.nodes (live_sets v) → Liveness s.nodes (live_sets w) → live_sets v ≡ live_sets w
one_family s v w lv lw x y i n t = at n t i
  where
    at : (n t : ℕ) → live_sets v n t ≡ live_sets w n t
    at n t = elim (cases_lt n (length s.nodes)) [
      | inl h ↦ liveness_unique s.nodes (live_sets v) (live_sets w) x y n h t
      | inr h ↦ ap (λ m. bit m t) (get_or_past v n 0 (omega (arith, lv)) ∙ sym (get_or_past w n 0 (omega (arith, lw))))
    ]

module _ (places : Source → (ℕ → ℕ → Bool) → ℕ → List Place) (R : ℕ) (words : List ℕ) where
  placed_once : (o : Option Source) (v w : List ℕ) (a b : Allocation) (left left' : List ℕ) (r r' : Result ℕ Refusal) → Placed places o v R words a left r → Placed places o w R words b left' r' → (r ≡ r') × Agree [] words r r' a b
  placed_once None v w a b left left' (Ok n) r' x y = absurd x
  placed_once None v w a b left left' (Err e) (Ok n) x y = absurd y
  placed_once None v w a b left left' (Err e) (Err f) x y = (ap Err (x.0 ∙ sym y.0), tt)
  placed_once (Some s) v w a b left left' (Ok n) (Ok m) x y =
      let same = x.published ∙ ap (λ (L : ℕ → ℕ → Bool). published_allocation s L R (places s L R)) (one_family s v w x.long y.long x.least y.least) ∙ sym y.published in
      (ap Ok (x.moves ∙ ap move_count same ∙ sym y.moves), same)
  placed_once (Some s) v w a b left left' (Ok n) (Err f) x (inl y) = absurd (y.outside x.registers)
  placed_once (Some s) v w a b left left' (Ok n) (Err f) x (inr y) = absurd (omega (arith, x.room, y.room))
  placed_once (Some s) v w a b left left' (Err e) (Ok m) (inl x) y = absurd (x.outside y.registers)
  placed_once (Some s) v w a b left left' (Err e) (Ok m) (inr x) y = absurd (omega (arith, x.room, y.room))
  placed_once (Some s) v w a b left left' (Err e) (Err f) (inl x) (inl y) = (ap Err (x.is ∙ sym y.is), tt)
  placed_once (Some s) v w a b left left' (Err e) (Err f) (inl x) (inr y) = absurd (x.outside y.registers)
  placed_once (Some s) v w a b left left' (Err e) (Err f) (inr x) (inl y) = absurd (y.outside x.registers)
  placed_once (Some s) v w a b left left' (Err e) (Err f) (inr x) (inr y) = (ap Err (x.is ∙ sym y.is), tt)

place_once : (places : Source → (ℕ → ℕ → Bool) → ℕ → List Place) (p q q' : Plain) (R : ℕ) (words left left' : List ℕ) (r r' : Result ℕ Refusal) → PlaceMade places p R words left r q → PlaceMade places p R words left' r' q' → (r ≡ r') × (q ≡ q')
place_once places p q q' R words left left' r r' x y =
    let both = placed_once places R words p.loaded x.live y.live x.allocation y.allocation left left' r r' x.placed y.placed in
    (both.0, after p q q' x.allocation y.allocation true [] words r r' both.0 both.1 x.held y.held)

write_once : (st : Option Standing) (at : ℕ) (was out out' : List ℕ) (r r' : Result ℕ Refusal) → WriteMade st at was r out → WriteMade st at was r' out' → (r ≡ r') × (out ≡ out')
write_once None at was out out' r r' x y = (x.0 ∙ sym y.0, x.1 ∙ sym y.1)
write_once (Some st) at was out out' (Ok n) (Ok m) x y = (ap Ok (x.1 ∙ sym y.1), x.2 ∙ sym y.2)
write_once (Some st) at was out out' (Ok n) (Err f) x y = absurd (omega (arith, x.0, y.0))
write_once (Some st) at was out out' (Err e) (Ok m) x y = absurd (omega (arith, x.0, y.0))
write_once (Some st) at was out out' (Err e) (Err f) x y = (ap Err (x.1 ∙ sym y.1), x.2 ∙ sym y.2)

pub one_answer_each_lem : OneAnswerEach
one_answer_each_lem = record { load = load_once; offer = offer_once; place = place_once; write = write_once }

some_none : {A : Type 0} {x : A} → Some x ≡ None → ⊥
some_none q = let z : ◌≡◌ {A = ℕ} 0 1 = cc in omega arith

some_same : {A : Type 0} {x y : A} → Some x ≡ Some y → x ≡ y
some_same q = cc

module _ {V S : Type 0} (K : Arithmetic V) (E : Answers S V) where
  report_same : (r t : Report V) → r.outcome ≡ t.outcome → r.nodes ≡ t.nodes → r.moves ≡ t.moves → r.entries ≡ t.entries → r ≡ t
  report_same r t a b c d i = record { outcome = a i; nodes = b i; moves = c i; entries = d i }

  finished_once : (e : Ending V S (Cells V)) (l : List (Entry V)) (r t : Report V) (h₁ h₂ : S) (cs₁ cs₂ : List V) (l₁ l₂ : List (Entry V)) → Finished e l r h₁ cs₁ l₁ → Finished e l t h₂ cs₂ l₂ → SameRun K E (Ok r) (Ok t) h₁ h₂ cs₁ cs₂ l₁ l₂
  finished_once e l r t h₁ h₂ cs₁ cs₂ l₁ l₂ x y = record {
    answer = ap Ok (report_same r t (x.outcome ∙ sym y.outcome) (x.nodes ∙ sym y.nodes) (x.moves ∙ sym y.moves) (x.entries ∙ sym y.entries));
    host = x.host ∙ sym y.host;
    cells = x.cells ∙ sym y.cells;
    list = x.list ∙ sym y.list;
  }

  module _ (budget : ℕ) (args : List V) (h : S) (cs : List V) (l : List (Entry V)) where
    answered_once : (st : Standing) (r r' : Result (Report V) Refusal) (h₁ h₂ : S) (cs₁ cs₂ : List V) (l₁ l₂ : List (Entry V)) → Answered K E st.source st.allocation budget args h cs l r h₁ cs₁ l₁
        → Answered K E st.source st.allocation budget args h cs l r' h₂ cs₂ l₂ → SameRun K E r r' h₁ h₂ cs₁ cs₂ l₁ l₂
    answered_once st (Ok r) (Ok t) h₁ h₂ cs₁ cs₂ l₁ l₂ x y = finished_once _ l r t h₁ h₂ cs₁ cs₂ l₁ l₂ x.1 y.1
    answered_once st (Ok r) (Err f) h₁ h₂ cs₁ cs₂ l₁ l₂ x y = absurd (some_none (sym y.0 ∙ x.0))
    answered_once st (Err e) (Ok t) h₁ h₂ cs₁ cs₂ l₁ l₂ x y = absurd (some_none (sym x.0 ∙ y.0))
    answered_once st (Err e) (Err f) h₁ h₂ cs₁ cs₂ l₁ l₂ x y =
        record { answer = ap Err (some_same (sym x.0 ∙ y.0)); host = x.1.host ∙ sym y.1.host; cells = x.1.cells ∙ sym y.1.cells; list = x.1.list ∙ sym y.1.list }

  pub one_run_lem : OneRun K E
  one_run_lem None budget args h cs l r r' h₁ h₂ cs₁ cs₂ l₁ l₂ x y =
      record { answer = x.answer ∙ sym y.answer; host = x.untouched.host ∙ sym y.untouched.host; cells = x.untouched.cells ∙ sym y.untouched.cells; list = x.untouched.list ∙ sym y.untouched.list }
  one_run_lem (Some st) budget args h cs l r r' h₁ h₂ cs₁ cs₂ l₁ l₂ x y = answered_once budget args h cs l st r r' h₁ h₂ cs₁ cs₂ l₁ l₂ x.answered y.answered
