-- The verdict is one, and it is acceptance exactly where no question forbids an equation.
use Rattle.std.proofs.Common.{◌≡◌, ℕ, ◌<◌, ◌≤◌, Bool, true, false, ◌&&◌, ◌⊎◌, List, [], ◌∷◌, length, sym, ap, ◌∙◌, subst, inl, inr, arith}
use mathlib.Core.Path.{fun_ext}
use Rattle.std.proofs.lemmas.Bool.{both_ways, cases_Bool, cases_order}
use Rattle.allocation.specs.Lines.{line_of}
use Rattle.sets.proofs.Least.{least_unique}
use Rattle.refusal.specs.declared.Refusal.{Refusal}
use Rattle.refusal.specs.declared.Refusal.TheVariants.{Mismatch}
use Rattle.source.specs.Nodes.{node_at}
use Rattle.source.specs.Reading.{Source}
use Rattle.source.specs.declared.node.Node.{Node}
use Rattle.source.proofs.Soundness.{all_sound}
use Rattle.allocation.specs.Allocations.{Line, Allocation}
use Rattle.equations.specs.Equations.{after, back_moves, equation_step, Equations}
use Rattle.equations.specs.Questions.{Question, questions, entry_question, Clear, FirstEquation, Fails, Passed, Failed}
use Rattle.equations.specs.Verdict.{Fits, MismatchedAt, PassedBelow, FailedNode, Accepted, Refused}
use Rattle.equations.specs.Laws.{Breaks, BreaksOne, AcceptedExactly, OneVerdict}
use Rattle.equations.proofs.Growth.{after_same}

-- ---- accepted exactly

clear_breaks : (q : Question) (E : ℕ × ℕ → Bool) → Clear E q.forbids → Breaks q E → ⊥
clear_breaks q E c b = both_ways (E b.0 && q.forbids b.0) (c b.0) b.1

breaks_clear : (q : Question) (E : ℕ × ℕ → Bool) → (Breaks q E → ⊥) → Clear E q.forbids
breaks_clear q E never e = go (cases_Bool (E e && q.forbids e))
  where
    go : ((E e && q.forbids e) ≡ true) ⊎ ((E e && q.forbids e) ≡ false) → (E e && q.forbids e) ≡ false
    go (inl h) = absurd (never (e, h))
    go (inr h) = h

passed_breaks : (qs : List Question) (E : ℕ × ℕ → Bool) → Passed qs E → BreaksOne qs E → ⊥
passed_breaks [] E p b = b
passed_breaks (q ∷ qs) E p (inl b) = clear_breaks q E p.0 b
passed_breaks (q ∷ qs) E p (inr b) = passed_breaks qs E p.1 b

breaks_passed : (qs : List Question) (E : ℕ × ℕ → Bool) → (BreaksOne qs E → ⊥) → Passed qs E
breaks_passed [] E never = tt
breaks_passed (q ∷ qs) E never = (breaks_clear q E (λ b. never (inl b)), breaks_passed qs E (λ b. never (inr b)))

pub exactly : AcceptedExactly
exactly s a size ready X least = (
  λ acc. record { nodes = λ n h. passed_breaks _ _ (acc.nodes n h); entry = clear_breaks (entry_question s a) (back_moves a.entry (X 0)) acc.entry },
  λ ok. record { ready = ready; least = least; nodes = λ n h. breaks_passed _ _ (ok.nodes n h); entry = breaks_clear (entry_question s a) (back_moves a.entry (X 0)) ok.entry },
)

-- ---- one verdict

clear_fails : (q : Question) (E : ℕ × ℕ → Bool) (r : Refusal) → Clear E q.forbids → Fails q E r → ⊥
clear_fails q E r c f = clear_breaks q E c (f.equation, f.first.here)

first_unique : (p : ℕ × ℕ → Bool) (e d : ℕ × ℕ) → FirstEquation p e → FirstEquation p d → e ≡ d
first_unique p e d f g = go (cases_order e.0 d.0) (cases_order e.1 d.1)
  where
    go : (e.0 ≡ d.0) ⊎ ((e.0 < d.0) ⊎ (d.0 < e.0)) → (e.1 ≡ d.1) ⊎ ((e.1 < d.1) ⊎ (d.1 < e.1)) → e ≡ d
    go (inr (inl h)) k = absurd (both_ways (p e) (g.before e h) f.here)
    go (inr (inr h)) k = absurd (both_ways (p d) (f.before d h) g.here)
    go (inl h) (inr (inl k)) = absurd (both_ways (p e) (ap (λ (l : ℕ). p (l, e.1)) h ∙ g.lower e.1 k) f.here)
    go (inl h) (inr (inr k)) = absurd (both_ways (p d) (ap (λ (l : ℕ). p (l, d.1)) (sym h) ∙ f.lower d.1 k) g.here)
    go (inl h) (inl k) = λ i. (h i, k i)

fails_unique : (q : Question) (E : ℕ × ℕ → Bool) (r r' : Refusal) → Fails q E r → Fails q E r' → r ≡ r'
fails_unique q E r r' f g = f.is ∙ ap q.refusal (first_unique (λ e. E e && q.forbids e) f.equation g.equation f.first g.first) ∙ sym g.is

passed_failed : (qs : List Question) (E : ℕ × ℕ → Bool) (r : Refusal) → Passed qs E → Failed qs E r → ⊥
passed_failed [] E r p f = f
passed_failed (q ∷ qs) E r p (inl f) = clear_fails q E r p.0 f
passed_failed (q ∷ qs) E r p (inr f) = passed_failed qs E r p.1 f.1

failed_unique : (qs : List Question) (E : ℕ × ℕ → Bool) (r r' : Refusal) → Failed qs E r → Failed qs E r' → r ≡ r'
failed_unique [] E r r' f g = absurd f
failed_unique (q ∷ qs) E r r' (inl f) (inl g) = fails_unique q E r r' f g
failed_unique (q ∷ qs) E r r' (inl f) (inr g) = absurd (clear_fails q E r g.0 f)
failed_unique (q ∷ qs) E r r' (inr f) (inl g) = absurd (clear_fails q E r' f.0 g)
failed_unique (q ∷ qs) E r r' (inr f) (inr g) = failed_unique qs E r r' f.1 g.1

module _ (nodes : List Node) (line : ℕ → Line) (X : ℕ → ℕ × ℕ → Bool) where
  node_passed : (r : Refusal) → PassedBelow nodes line X (length nodes) → FailedNode nodes line X r → ⊥
  node_passed r p f = passed_failed _ _ r (p f.node f.at) f.here

  node_unique : (r r' : Refusal) → FailedNode nodes line X r → FailedNode nodes line X r' → r ≡ r'
  node_unique r r' f g = go (cases_order f.node g.node)
    where
      go : (f.node ≡ g.node) ⊎ ((f.node < g.node) ⊎ (g.node < f.node)) → r ≡ r'
      go (inr (inl h)) = absurd (passed_failed _ _ r (g.before f.node h) f.here)
      go (inr (inr h)) = absurd (passed_failed _ _ r' (f.before g.node h) g.here)
      go (inl h) =
          failed_unique (questions g.node (node_at nodes g.node) (line g.node).main) (after X (node_at nodes g.node) (line g.node)) r r'
          (subst (λ (n : ℕ). Failed (questions n (node_at nodes n) (line n).main) (after X (node_at nodes n) (line n)) r) h f.here) g.here

mismatch_unique : (nodes : List Node) (line : ℕ → Line) (n m : ℕ) → MismatchedAt nodes line n → MismatchedAt nodes line m → n ≡ m
mismatch_unique nodes line n m f g = go (cases_order n m)
  where
    go : (n ≡ m) ⊎ ((n < m) ⊎ (m < n)) → n ≡ m
    go (inl h) = h
    go (inr (inl h)) = absurd (f.here (g.before n h))
    go (inr (inr h)) = absurd (g.here (f.before m h))

-- two least solutions agree, so that what one says the other says
module _ (s : Source) (a : Allocation) (size : ℕ) (fits : Fits s a) (X Y : ℕ → ℕ × ℕ → Bool) where
  module _ (x : Equations s a X) (y : Equations s a Y) where
    same : (n : ℕ) → n < length s.nodes → (e : ℕ × ℕ) → X n e ≡ Y n e
    same = least_unique (length s.nodes) (equation_step s a) x y

    same_after : (n : ℕ) → n < length s.nodes → after X (node_at s.nodes n) (line_of a n) ≡ after Y (node_at s.nodes n) (line_of a n)
    same_after n h = after_same s.temporaries (length s.nodes) X Y (node_at s.nodes n) (all_sound s.temporaries s.nodes fits.sound n h) (line_of a n) same

    same_first : X 0 ≡ Y 0
    same_first = fun_ext (same 0 fits.some)

    passed_to : (n : ℕ) → n ≤ length s.nodes → PassedBelow s.nodes (line_of a) X n → PassedBelow s.nodes (line_of a) Y n
    passed_to n l p k h = subst (Passed (questions k (node_at s.nodes k) (line_of a k).main)) (same_after k (omega arith)) (p k h)

    failed_to : (r : Refusal) → FailedNode s.nodes (line_of a) X r → FailedNode s.nodes (line_of a) Y r
    failed_to r f = record {
      node = f.node;
      at = f.at;
      before = passed_to f.node (omega (arith, f.at)) f.before;
      here = subst (λ (E : ℕ × ℕ → Bool). Failed (questions f.node (node_at s.nodes f.node) (line_of a f.node).main) E r) (same_after f.node f.at) f.here;
    }

    fails_to : (r : Refusal) → Fails (entry_question s a) (back_moves a.entry (X 0)) r → Fails (entry_question s a) (back_moves a.entry (Y 0)) r
    fails_to r f = subst (λ (E : ℕ × ℕ → Bool). Fails (entry_question s a) (back_moves a.entry E) r) same_first f

  not_both : (r : Refusal) → Refused s a size X r → Accepted s a size Y → ⊥
  not_both r (inl f) acc = omega (arith, f.room, acc.ready.room)
  not_both r (inr (inl f)) acc = f.first.here (acc.ready.matches f.node f.first.at)
  not_both r (inr (inr (inl f))) acc = node_passed s.nodes (line_of a) Y r acc.nodes (failed_to f.least acc.least r f.first)
  not_both r (inr (inr (inr f))) acc = clear_fails (entry_question s a) (back_moves a.entry (Y 0)) r acc.entry (fails_to f.least acc.least r f.first)

  one_refusal : (r q : Refusal) → Refused s a size X r → Refused s a size Y q → r ≡ q
  one_refusal r q (inl f) (inl g) = f.is ∙ sym g.is
  one_refusal r q (inl f) (inr (inl g)) = absurd (omega (arith, f.room, g.room))
  one_refusal r q (inl f) (inr (inr (inl g))) = absurd (omega (arith, f.room, g.ready.room))
  one_refusal r q (inl f) (inr (inr (inr g))) = absurd (omega (arith, f.room, g.ready.room))
  one_refusal r q (inr (inl f)) (inl g) = absurd (omega (arith, f.room, g.room))
  one_refusal r q (inr (inl f)) (inr (inl g)) = f.is ∙ ap Mismatch (mismatch_unique s.nodes (line_of a) f.node g.node f.first g.first) ∙ sym g.is
  one_refusal r q (inr (inl f)) (inr (inr (inl g))) = absurd (f.first.here (g.ready.matches f.node f.first.at))
  one_refusal r q (inr (inl f)) (inr (inr (inr g))) = absurd (f.first.here (g.ready.matches f.node f.first.at))
  one_refusal r q (inr (inr (inl f))) (inl g) = absurd (omega (arith, f.ready.room, g.room))
  one_refusal r q (inr (inr (inl f))) (inr (inl g)) = absurd (g.first.here (f.ready.matches g.node g.first.at))
  one_refusal r q (inr (inr (inl f))) (inr (inr (inl g))) = node_unique s.nodes (line_of a) Y r q (failed_to f.least g.least r f.first) g.first
  one_refusal r q (inr (inr (inl f))) (inr (inr (inr g))) = absurd (node_passed s.nodes (line_of a) Y r g.nodes (failed_to f.least g.least r f.first))
  one_refusal r q (inr (inr (inr f))) (inl g) = absurd (omega (arith, f.ready.room, g.room))
  one_refusal r q (inr (inr (inr f))) (inr (inl g)) = absurd (g.first.here (f.ready.matches g.node g.first.at))
  one_refusal r q (inr (inr (inr f))) (inr (inr (inl g))) = absurd (node_passed s.nodes (line_of a) Y q (passed_to f.least g.least (length s.nodes) (omega arith) f.nodes) g.first)
  one_refusal r q (inr (inr (inr f))) (inr (inr (inr g))) = fails_unique (entry_question s a) (back_moves a.entry (Y 0)) r q (fails_to f.least g.least r f.first) g.first

pub one_verdict_lem : OneVerdict
one_verdict_lem s a size fits X Y r f = (not_both s a size fits X Y r f, λ q g. one_refusal s a size fits X Y r q f g)
