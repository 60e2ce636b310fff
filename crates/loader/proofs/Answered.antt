-- A text has one answer.
use Rattle.std.proofs.Common.{◌≡◌, ℕ, ◌<◌, Bool, ◌&&◌, leb, List, length, Ok, sym, ap, ◌∙◌, subst, inl, inr, arith}
use Rattle.std.proofs.lemmas.Bool.{and_parts, leb-true}
use Rattle.sets.proofs.Masks.{greatest_same, count_same, first_unique}
use Rattle.refusal.specs.declared.Refusal.{Refusal}
use Rattle.refusal.specs.declared.Refusal.TheVariants.{Unset}
use Rattle.source.specs.Reading.{Source, read_source}
use Rattle.source.proofs.SourceLaws.{read_is_written}
use Rattle.loader.specs.Live.{Liveness, live_sets, pressure}
use Rattle.loader.specs.Load.{Granted, ReadsUnset, Refused, OneAnswer}
use Rattle.loader.proofs.Flow.{liveness_unique}

pub pressure_same : (s : Source) (L M : ℕ → ℕ → Bool) → Liveness s.nodes L → Liveness s.nodes M → pressure s.temporaries L (length s.nodes) ≡ pressure s.temporaries M (length s.nodes)
pressure_same s L M a b = greatest_same _ _ (length s.nodes) (λ k h. count_same s.temporaries (L k) (M k) (λ v. liveness_unique s.nodes L M a b k h v))

module _ (bs : List ℕ) where
  same_source : (s t : Source) → read_source bs ≡ Ok s → read_source bs ≡ Ok t → t ≡ s
  same_source s t p q = cc

  -- the first node is one
  first_node : (s : Source) → read_source bs ≡ Ok s → 0 < length s.nodes
  first_node s e = omega (arith, (read_is_written bs s e).0.nodes_some)

  granted_once : (s t : Source) (v w : List ℕ) (c d : ℕ × ℕ × ℕ) → Granted bs s v c → Granted bs t w d → (s ≡ t) × (c ≡ d)
  granted_once s t v w c d a b =
      let is = same_source s t a.read b.read in
      (sym is, a.is ∙ counted (subst (λ (x : Source). Granted bs x w d) is b))
    where
      counted : Granted bs s w d → (s.temporaries, length s.nodes, pressure s.temporaries (live_sets v) (length s.nodes)) ≡ d
      counted g = (λ i. (s.temporaries, length s.nodes, pressure_same s (live_sets v) (live_sets w) a.live g.live i)) ∙ sym g.is

  unset_once : (s t : Source) (k l : ℕ) → ReadsUnset bs s k → ReadsUnset bs t l → k ≡ l
  unset_once s t k l a b =
      let is = same_source s t a.read b.read in
      let b' = subst (λ (x : Source). ReadsUnset bs x l) is b in
      first_unique _ _ k l (λ v. ap (λ (x : Bool). leb s.parameters v && x) (liveness_unique s.nodes a.live b'.live a.least b'.least 0 (first_node s a.read) v)) a.first b'.first

  refused_once : (e f : Refusal) → Refused bs e → Refused bs f → e ≡ f
  refused_once e f (inl p) (inl q) = cc
  refused_once e f (inl p) (inr q) = let r = q.3.read in let z : ◌≡◌ {A = ℕ} 0 1 = cc in absurd (omega arith)
  refused_once e f (inr p) (inl q) = let r = p.3.read in let z : ◌≡◌ {A = ℕ} 0 1 = cc in absurd (omega arith)
  refused_once e f (inr p) (inr q) = p.2 ∙ ap Unset (unset_once p.0 q.0 p.1 q.1 p.3 q.3) ∙ sym q.2

  not_both : (s : Source) (w : List ℕ) (c : ℕ × ℕ × ℕ) (e : Refusal) → Granted bs s w c → Refused bs e → ⊥
  not_both s w c e a (inl p) = let r = a.read in let z : ◌≡◌ {A = ℕ} 0 1 = cc in omega arith
  not_both s w c e a (inr p) =
      let u = subst (λ (x : Source). ReadsUnset bs x p.1) (same_source s p.0 a.read p.3.read) p.3 in
      let both = and_parts (leb s.parameters p.1) (u.live 0 p.1) u.first.here in
      let low = a.entry p.1 (liveness_unique s.nodes (live_sets w) u.live a.live u.least 0 (first_node s a.read) p.1 ∙ both.1) in
      omega (arith, leb-true s.parameters p.1 both.0)

  pub one_answer : OneAnswer bs
  one_answer = record { granted = granted_once; refused = refused_once; never_both = not_both }
