-- Cutting a text into lines and fields, and writing it, undo each other.
use Rattle.std.proofs.Common.{◌≡◌, ℕ, suc, ◌-◌, ◌<◌, ◌≤◌, Bool, true, false, eqb, List, [], ◌∷◌, ◌++◌, map, length, get_or, sym, refl, ap, ◌∙◌, subst, append_assoc, arith}
use Rattle.std.proofs.lemmas.List.{append-nil}
use Rattle.std.proofs.lemmas.Bool.{cond-true, cond-false, eq-eqb, ne_eqb, eqb-true, and_from, le-leb}
use Rattle.std.proofs.lemmas.Bool.Decides.{nat_tests}
use Rattle.text.specs.Parts.{parts, on_first, lines_of, fields_of, sized, ended, written}
use Rattle.text.proofs.Splits.{some-parts, lines_none}

-- p has no byte b
abbrev pub Lacks : ℕ → List ℕ → Type 0
Lacks b [] = Unit {0}
Lacks b (c ∷ cs) = (c ≡ b → ⊥) × Lacks b cs

abbrev pub AllLack : ℕ → List (List ℕ) → Type 0
AllLack b [] = Unit {0}
AllLack b (p ∷ ps) = Lacks b p × AllLack b ps

-- fields that stand for themselves: there is one, and none has a separator in it
pub record Plain (fs : List (List ℕ)) : Type 0 where
  pub some : 0 < length fs
  pub no_tab : AllLack 9 fs
  pub no_end : AllLack 10 fs

abbrev pub AllPlain : List (List (List ℕ)) → Type 0
AllPlain [] = Unit {0}
AllPlain (fs ∷ ls) = Plain fs × AllPlain ls

pub lacks_append : (b : ℕ) (p q : List ℕ) → Lacks b p → Lacks b q → Lacks b (p ++ q)
lacks_append b [] q h k = k
lacks_append b (c ∷ p) q h k = (h.0, lacks_append b p q h.1 k)

-- fields parted by byte 9
abbrev tabbed : List (List ℕ) → List ℕ
tabbed [] = []
tabbed (p ∷ []) = p
tabbed (p ∷ q ∷ ps) = p ++ 9 ∷ tabbed (q ∷ ps)

ended_tabbed : (fs : List (List ℕ)) → 0 < length fs → ended fs ≡ tabbed fs ++ 10 ∷ []
ended_tabbed [] h = absurd (omega arith)
ended_tabbed (p ∷ []) h = refl
ended_tabbed (p ∷ q ∷ ps) h = ap (λ t. p ++ 9 ∷ t) (ended_tabbed (q ∷ ps) (omega arith)) ∙ sym (append_assoc p (9 ∷ tabbed (q ∷ ps)) (10 ∷ []))

-- written, then cut

module _ (b : ℕ) (last : List (List ℕ)) (rest : List ℕ) where
  parts_cut : (p : List ℕ) → Lacks b p → parts b last (p ++ b ∷ rest) ≡ p ∷ parts b last rest
  parts_cut [] h = cond-true _ _ _ (eq-eqb b b refl)
  parts_cut (c ∷ p) h = cond-false _ _ _ (ne_eqb c b h.0) ∙ ap (on_first c) (parts_cut p h.1)

parts-only : (b : ℕ) (p : List ℕ) → Lacks b p → parts b ([] ∷ []) p ≡ p ∷ []
parts-only b [] h = refl
parts-only b (c ∷ p) h = cond-false _ _ _ (ne_eqb c b h.0) ∙ ap (on_first c) (parts-only b p h.1)

fields_tabbed : (fs : List (List ℕ)) → 0 < length fs → AllLack 9 fs → fields_of (tabbed fs) ≡ fs
fields_tabbed [] some h = absurd (omega arith)
fields_tabbed (p ∷ []) some h = parts-only 9 p h.0
fields_tabbed (p ∷ q ∷ ps) some h = parts_cut 9 ([] ∷ []) (tabbed (q ∷ ps)) p h.0 ∙ ap (λ fs. p ∷ fs) (fields_tabbed (q ∷ ps) (omega arith) h.1)

tabbed_lacks : (b : ℕ) → (9 ≡ b → ⊥) → (ps : List (List ℕ)) → AllLack b ps → Lacks b (tabbed ps)
tabbed_lacks b ne [] h = tt
tabbed_lacks b ne (p ∷ []) h = h.0
tabbed_lacks b ne (p ∷ q ∷ ps) h = lacks_append b p (9 ∷ tabbed (q ∷ ps)) h.0 (ne, tabbed_lacks b ne (q ∷ ps) h.1)

-- the first line that is written, and the rest
line_cut : (fs : List (List ℕ)) (rest : List ℕ) → Plain fs → lines_of (ended fs ++ rest) ≡ tabbed fs ∷ lines_of rest
unfolding lines_of
line_cut fs rest h =
    ap (λ t. lines_of (t ++ rest)) (ended_tabbed fs h.some) ∙ ap lines_of (append_assoc (tabbed fs) (10 ∷ []) rest)
    ∙ parts_cut 10 [] rest (tabbed fs) (tabbed_lacks 10 (omega arith) fs h.no_end)

-- the lines of what is written have the fields that were written
pub cut_written : (ls : List (List (List ℕ))) → AllPlain ls → map fields_of (lines_of (written ls)) ≡ ls
unfolding written
cut_written [] h = ap (map fields_of) lines_none
cut_written (fs ∷ ls) h =
    ap (map fields_of) (line_cut fs (written ls) h.0) ∙ (λ i. fields_tabbed fs h.0.some h.0.no_tab i ∷ cut_written ls h.1 i)

-- cut, then written

tabbed_on_first : (c : ℕ) (ps : List (List ℕ)) → 0 < length ps → tabbed (on_first c ps) ≡ c ∷ tabbed ps
tabbed_on_first c [] h = absurd (omega arith)
tabbed_on_first c (p ∷ []) h = refl
tabbed_on_first c (p ∷ q ∷ ps) h = refl

tabbed_empty : (ps : List (List ℕ)) → 0 < length ps → tabbed ([] ∷ ps) ≡ 9 ∷ tabbed ps
tabbed_empty [] h = absurd (omega arith)
tabbed_empty (p ∷ ps) h = refl

tabbed_fields : (bs : List ℕ) → tabbed (fields_of bs) ≡ bs
tabbed_fields [] = refl
tabbed_fields (c ∷ cs) = go (eqb c 9) refl (tabbed_fields cs)
  where
    go : (t : Bool) → eqb c 9 ≡ t → tabbed (fields_of cs) ≡ cs → tabbed (fields_of (c ∷ cs)) ≡ c ∷ cs
    go true t ih = ap tabbed (cond-true _ _ _ t) ∙ tabbed_empty (fields_of cs) (some-parts 9 cs) ∙ ap (λ r. 9 ∷ r) ih ∙ ap (λ b. b ∷ cs) (sym (eqb-true c 9 t))
    go false t ih = ap tabbed (cond-false _ _ _ t) ∙ tabbed_on_first c (fields_of cs) (some-parts 9 cs) ∙ ap (λ r. c ∷ r) ih

ended_fields : (bs : List ℕ) → ended (fields_of bs) ≡ bs ++ 10 ∷ []
ended_fields bs = ended_tabbed (fields_of bs) (some-parts 9 bs) ∙ ap (λ t. t ++ 10 ∷ []) (tabbed_fields bs)

-- bs ends with the byte 10
abbrev Ends : List ℕ → Type 0
Ends [] = ⊥
Ends (c ∷ []) = c ≡ 10
Ends (c ∷ d ∷ cs) = Ends (d ∷ cs)

ends_at : (bs : List ℕ) → 0 < length bs → get_or bs (length bs - 1) 0 ≡ 10 → Ends bs
ends_at [] some e = absurd (omega arith)
ends_at (c ∷ []) some e = e
ends_at (c ∷ d ∷ cs) some e =
    let k : length (c ∷ d ∷ cs) - 1 ≡ suc (length (d ∷ cs) - 1) = omega arith in
    ends_at (d ∷ cs) (omega arith) (subst (λ j. get_or (c ∷ d ∷ cs) j 0 ≡ 10) k e)

some_lines : (c : ℕ) (cs : List ℕ) → 0 < length (parts 10 [] (c ∷ cs))
some_lines c cs = go (eqb c 10) refl
  where
    some : (ps : List (List ℕ)) → 0 < length (on_first c ps)
    some [] = omega arith
    some (p ∷ ps) = omega arith

    go : (t : Bool) → eqb c 10 ≡ t → 0 < length (parts 10 [] (c ∷ cs))
    go true t = subst (λ ps. 0 < length ps) (sym (cond-true _ _ _ t)) (omega arith)
    go false t = subst (λ ps. 0 < length ps) (sym (cond-false _ _ _ t)) (some (parts 10 [] cs))

-- lines put together, each with its ending
abbrev joined : List (List ℕ) → List ℕ
joined [] = []
joined (l ∷ ls) = (l ++ 10 ∷ []) ++ joined ls

joined_on_first : (c : ℕ) (ps : List (List ℕ)) → 0 < length ps → joined (on_first c ps) ≡ c ∷ joined ps
joined_on_first c [] h = absurd (omega arith)
joined_on_first c (p ∷ ps) h = refl

joined_lines : (bs : List ℕ) → Ends bs → joined (lines_of bs) ≡ bs
unfolding lines_of
joined_lines [] h = absurd h
joined_lines (c ∷ []) h = ap joined (cond-true _ _ _ (eq-eqb c 10 h)) ∙ ap (λ b. b ∷ []) (sym h)
joined_lines (c ∷ d ∷ cs) h = go (eqb c 10) refl (joined_lines (d ∷ cs) h)
  where
    go : (t : Bool) → eqb c 10 ≡ t → joined (lines_of (d ∷ cs)) ≡ d ∷ cs → joined (lines_of (c ∷ d ∷ cs)) ≡ c ∷ d ∷ cs
    go true t ih = ap joined (cond-true _ _ _ t) ∙ ap (λ r. 10 ∷ r) ih ∙ ap (λ b. b ∷ d ∷ cs) (sym (eqb-true c 10 t))
    go false t ih = ap joined (cond-false _ _ _ t) ∙ joined_on_first c (lines_of (d ∷ cs)) (some_lines d cs) ∙ ap (λ r. c ∷ r) ih

written_joined : (ls : List (List ℕ)) → written (map fields_of ls) ≡ joined ls
unfolding written
written_joined [] = refl
written_joined (l ∷ ls) = λ i. ended_fields l i ++ written_joined ls i

-- a text of a right size is the text of its lines and their fields
pub written_cut : (bs : List ℕ) → sized bs ≡ true → written (map fields_of (lines_of bs)) ≡ bs
written_cut bs h = written_joined (lines_of bs) ∙ joined_lines bs (ends_at bs (grind (arith, nat_tests)) (grind (arith, nat_tests)))

-- what is written ends in byte 10

at_ends : (bs : List ℕ) → Ends bs → (0 < length bs) × (get_or bs (length bs - 1) 0 ≡ 10)
at_ends [] e = absurd e
at_ends (c ∷ []) e = (omega arith, e)
at_ends (c ∷ d ∷ cs) e =
    let k : suc (length (d ∷ cs) - 1) ≡ length (c ∷ d ∷ cs) - 1 = omega arith in
    (omega arith, subst (λ j. get_or (c ∷ d ∷ cs) j 0 ≡ 10) k (at_ends (d ∷ cs) e).1)

ends_append : (p q : List ℕ) → Ends q → Ends (p ++ q)
ends_append [] q h = h
ends_append (c ∷ []) [] h = absurd h
ends_append (c ∷ []) (d ∷ q) h = h
ends_append (c ∷ d ∷ p) q h = ends_append (d ∷ p) q h

ends_ended : (fs : List (List ℕ)) → 0 < length fs → Ends (ended fs)
ends_ended fs h = subst Ends (sym (ended_tabbed fs h)) (ends_append (tabbed fs) (10 ∷ []) refl)

ends_written : (fs : List (List ℕ)) (ls : List (List (List ℕ))) → AllPlain (fs ∷ ls) → Ends (written (fs ∷ ls))
unfolding written
ends_written fs [] h = subst Ends (sym (append-nil (ended fs))) (ends_ended fs h.0.some)
ends_written fs (gs ∷ ls) h = ends_append (ended fs) (written (gs ∷ ls)) (ends_written gs ls h.1)

pub sized-written : (ls : List (List (List ℕ))) → AllPlain ls → 0 < length ls → length (written ls) ≤ 32768 → sized (written ls) ≡ true
sized-written [] h some short = absurd (omega arith)
sized-written (fs ∷ ls) h some short =
    let e = at_ends (written (fs ∷ ls)) (ends_written fs ls h) in
    and_from _ _ (and_from _ _ (le-leb 1 _ e.0) (le-leb _ 32768 short)) (eq-eqb _ 10 e.1)
