-- One call more of a life.
use Rattle.std.proofs.Common.{◌≡◌, ℕ, ◌+◌, ◌<◌, ◌≤◌, ◌≢◌, List, [], ◌∷◌, ◌++◌, length, get_or, take, set, sym, refl, ◌∙◌, subst, subst₂, arith}
use Rattle.std.proofs.lemmas.List.{take_more, take_more_set, get_or-set_other, length-set}
use Rattle.engine.specs.Plain.{Plain}
use Rattle.service.specs.Served.{Lived}

module _ {C : Type 0} (Made : Plain → C → C → Plain → Type 0) where
  lived_push : (p q m : Plain) (before after : List C) (b a : C) → Lived Made p before after q → Made q b a m → Lived Made p (before ++ b ∷ []) (after ++ a ∷ []) m
  lived_push p q m [] [] b a e made = (m, subst (λ (z : Plain). Made z b a m) e made, refl)
  lived_push p q m [] (y ∷ after) b a e made = absurd e
  lived_push p q m (x ∷ before) [] b a e made = absurd e
  lived_push p q m (x ∷ before) (y ∷ after) b a e made = (e.0, e.1, lived_push e.0 q m before after b a e.2 made)

  -- the calls so far: the first i are made, the others are as they were
  pub record Serving (p : Plain) (old items : List C) (i : ℕ) (q : Plain) : Type 0 where
    pub lived : Lived Made p (take i old) (take i items) q
    pub long : length items ≡ length old
    pub rest : (k : ℕ) (d : C) → i ≤ k → get_or items k d ≡ get_or old k d

  pub serving_more : (p : Plain) (old items : List C) (i : ℕ) (q m : Plain) (d y : C) → Serving p old items i q → i < length items → Made q (get_or items i d) y m → Serving p old (set items i y) (i + 1) m
  serving_more p old items i q m d y s within made = record {
    lived = subst₂ (λ (b a : List C). Lived Made p b a m) (sym (take_more old i d (omega (arith, s.long)))) (sym (take_more_set items i y within)) (lived_push p q m (take i old) (take i items) (get_or old i d) y s.lived (subst (λ (z : C). Made q z y m) (s.rest i d (omega arith)) made));
    long = length-set items i y ∙ s.long;
    rest = λ k e h. let ne : k ≢ i = omega arith in get_or-set_other items i k y e ne ∙ s.rest k e (omega arith);
  }
