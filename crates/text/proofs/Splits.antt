-- Laws of parts.
use Rattle.std.proofs.Common.{◌≡◌, ℕ, ◌+◌, ◌<◌, ◌≤◌, Bool, true, false, cond, eqb, ltb, List, [], ◌∷◌, ◌++◌, length, take, drop, Some, None, Option, sym, refl, ap, ◌∙◌, arith, length-append, ltb-false, Bor, MatchOption}
use Rattle.std.proofs.lemmas.List.{take_all, drop_all, drop-drop, length-drop}
use Rattle.std.proofs.Math.Seq.{drop-append-add}
use Rattle.std.proofs.lemmas.List.Recursion.{is_position_or_len}
use Rattle.std.proofs.lemmas.Bool.{cond-true, cond-false, cond_both}
use Rattle.std.specs.List.{position_or_len}
use Rattle.std.specs.Option.{unwrap_or}
use Rattle.text.specs.Parts.{first_part, on_first, parts, lines_of, fields_of}
use Rattle.text.specs.Lines.{fields_in}

-- what stands before the first b

first_long : (b : ℕ) (s : List ℕ) → length (first_part b s) ≡ position_or_len (λ x. eqb x b) s
first_long b = is_position_or_len (λ s. length (first_part b s)) (λ x. eqb x b) refl (λ x xs. go x xs (eqb x b) refl)
  where
    go : (x : ℕ) (xs : List ℕ) (t : Bool) → eqb x b ≡ t → length (first_part b (x ∷ xs)) ≡ cond (eqb x b) 0 (1 + length (first_part b xs))
    go x xs true e = rw e refl
    go x xs false e = rw e (omega arith)

first_taken : (b : ℕ) (s : List ℕ) → take (length (first_part b s)) s ≡ first_part b s
first_taken b [] = refl
first_taken b (c ∷ cs) = go (first_taken b cs) (eqb c b) refl
  where
    go : take (length (first_part b cs)) cs ≡ first_part b cs → (t : Bool) → eqb c b ≡ t → take (length (first_part b (c ∷ cs))) (c ∷ cs) ≡ first_part b (c ∷ cs)
    go ih true e = rw e refl
    go ih false e = rw e (ap (λ p. c ∷ p) ih)

first_part_le : (b : ℕ) (s : List ℕ) → length (first_part b s) ≤ length s
first_part_le b [] = omega arith
first_part_le b (c ∷ cs) = cond_both (eqb c b) [] (c ∷ first_part b cs) (λ p. length p ≤ length (c ∷ cs)) (λ _. omega arith) (λ _. omega (arith, first_part_le b cs))

-- the first b, as a search finds it
abbrev pub found : ℕ → List ℕ → Option ℕ
found b s = cond (ltb (position_or_len (λ x. eqb x b) s) (length s)) (Some (position_or_len (λ x. eqb x b) s)) None

pub first_found : (b : ℕ) (s : List ℕ) (n : ℕ) → Some n ≡ found b s → take n s ≡ first_part b s
first_found b s n e = go (ltb (position_or_len (λ x. eqb x b) s) (length s)) refl
  where
    go : (t : Bool) → ltb (position_or_len (λ x. eqb x b) s) (length s) ≡ t → take n s ≡ first_part b s
    go true t =
        let q : Some n ≡ Some (position_or_len (λ x. eqb x b) s) = e ∙ cond-true _ _ _ t in
        let p : n ≡ position_or_len (λ x. eqb x b) s = cc in
        ap (λ k. take k s) (p ∙ sym (first_long b s)) ∙ first_taken b s
    go false t = let q : ◌≡◌ {A = Option ℕ} (Some n) None = e ∙ cond-false _ _ _ t in grind arith

pub first_missing : (b : ℕ) (s : List ℕ) → None ≡ found b s → s ≡ first_part b s
first_missing b s e = go (ltb (position_or_len (λ x. eqb x b) s) (length s)) refl
  where
    go : (t : Bool) → ltb (position_or_len (λ x. eqb x b) s) (length s) ≡ t → s ≡ first_part b s
    go true t = let q : ◌≡◌ {A = Option ℕ} None (Some (position_or_len (λ x. eqb x b) s)) = e ∙ cond-true _ _ _ t in grind arith
    go false t = sym (take_all (length (first_part b s)) s (omega (arith, first_long b s, ltb-false _ _ t))) ∙ first_taken b s

-- the first part, and those after the b that follows it
parts_more : (b : ℕ) (last : List (List ℕ)) (s r : List ℕ) → s ≡ first_part b s ++ b ∷ r → parts b last s ≡ first_part b s ∷ parts b last r
parts_more b last [] r e = let k = ap length e in absurd (omega arith)
parts_more b last (c ∷ cs) r e = go (parts_more b last cs r) (eqb c b) refl
  where
    go : (cs ≡ first_part b cs ++ b ∷ r → parts b last cs ≡ first_part b cs ∷ parts b last r) → (t : Bool) → eqb c b ≡ t → parts b last (c ∷ cs) ≡ first_part b (c ∷ cs) ∷ parts b last r
    go ih true t =
        let k : c ∷ cs ≡ b ∷ r = rw t at e in
        let q : cs ≡ r = cc in
        rw t (ap (λ x. [] ∷ parts b last x) q)
    go ih false t =
        let k : c ∷ cs ≡ c ∷ (first_part b cs ++ b ∷ r) = rw t at e in
        let q : cs ≡ first_part b cs ++ b ∷ r = cc in
        rw t (ap (on_first c) (ih q))

-- no b, so that there is one part
pub parts_last : (b : ℕ) (s : List ℕ) → length (first_part b s) ≡ length s → parts b ([] ∷ []) s ≡ s ∷ []
parts_last b [] h = refl
parts_last b (c ∷ cs) h = go (parts_last b cs) (eqb c b) refl
  where
    go : (length (first_part b cs) ≡ length cs → parts b ([] ∷ []) cs ≡ cs ∷ []) → (t : Bool) → eqb c b ≡ t → parts b ([] ∷ []) (c ∷ cs) ≡ (c ∷ cs) ∷ []
    go ih true e =
        let k : length {A = ℕ} [] ≡ length (c ∷ cs) = rw e at h in absurd (omega arith)
    go ih false e =
        let k : length (c ∷ first_part b cs) ≡ length (c ∷ cs) = rw e at h in
        rw e (ap (on_first c) (ih (omega arith)))

pub some-parts : (b : ℕ) (s : List ℕ) → 0 < length (parts b ([] ∷ []) s)
some-parts b [] = omega arith
some-parts b (c ∷ cs) = cond_both (eqb c b) ([] ∷ parts b ([] ∷ []) cs) (on_first c (parts b ([] ∷ []) cs)) (λ p. 0 < length p) (λ _. omega arith) (λ _. some (parts b ([] ∷ []) cs))
  where
    some : (ps : List (List ℕ)) → 0 < length (on_first c ps)
    some [] = omega arith
    some (p ∷ ps) = omega arith

parts_whole : (b : ℕ) (s : List ℕ) → length (first_part b s) ≡ length s → 0 < length s → parts b [] s ≡ s ∷ []
parts_whole b [] h some = absurd (omega arith)
parts_whole b (c ∷ []) h some = go (eqb c b) refl
  where
    go : (t : Bool) → eqb c b ≡ t → parts b [] (c ∷ []) ≡ (c ∷ []) ∷ []
    go true e = let k : length {A = ℕ} [] ≡ length (c ∷ []) = rw e at h in absurd (omega arith)
    go false e = rw e refl
parts_whole b (c ∷ d ∷ cs) h some = go (parts_whole b (d ∷ cs)) (eqb c b) refl
  where
    go : (length (first_part b (d ∷ cs)) ≡ length (d ∷ cs) → 0 < length (d ∷ cs) → parts b [] (d ∷ cs) ≡ (d ∷ cs) ∷ []) → (t : Bool) → eqb c b ≡ t → parts b [] (c ∷ d ∷ cs) ≡ (c ∷ d ∷ cs) ∷ []
    go ih true e = let k : length {A = ℕ} [] ≡ length (c ∷ d ∷ cs) = rw e at h in absurd (omega arith)
    go ih false e =
        let k : length (c ∷ first_part b (d ∷ cs)) ≡ length (c ∷ d ∷ cs) = rw e at h in
        rw e (ap (on_first c) (ih (omega arith) (omega arith)))

-- the line that is cut off at the first byte 10, and those after it
pub line_first : (s p : List ℕ) (r : Option (Bor (List ℕ))) (d : Bor (List ℕ)) → 0 < length s → p ≡ first_part 10 s → MatchOption r (s ≡ p) (λ x. s ≡ p ++ 10 ∷ x.now) → d.now ≡ [] → lines_of s ≡ p ∷ lines_of (unwrap_or r d).now
unfolding lines_of
line_first s p None d some first cut none = parts_whole 10 s (ap length (sym first ∙ sym cut)) some ∙ (λ i. cut i ∷ parts 10 [] (sym none i))
line_first s p (Some x) d some first cut none = parts_more 10 [] s x.now (cut ∙ ap (λ q. q ++ 10 ∷ x.now) first) ∙ ap (λ q. q ∷ parts 10 [] x.now) (sym first)

-- what stands after a line that is cut off
after_line : (p x : List ℕ) → drop (length p + 1) (p ++ 10 ∷ x) ≡ x
after_line p x = drop-append-add p (10 ∷ x) 1

-- the line that is cut off, and those that begin after it
line_next : (s p : List ℕ) (r : Option (Bor (List ℕ))) → 0 < length s → p ≡ first_part 10 s → MatchOption r (s ≡ p) (λ x. s ≡ p ++ 10 ∷ x.now) → lines_of s ≡ p ∷ lines_of (drop (length p + 1) s)
unfolding lines_of
line_next s p None some first cut =
    parts_whole 10 s (ap length (sym first ∙ sym cut)) some ∙ (λ i. cut i ∷ parts 10 [] (sym (drop_all (length p + 1) s (omega (arith, ap length cut))) i))
line_next s p (Some x) some first cut =
    parts_more 10 [] s x.now (cut ∙ ap (λ q. q ++ 10 ∷ x.now) first)
    ∙ (λ i. sym first i ∷ parts 10 [] (sym (ap (drop (length p + 1)) cut ∙ after_line p x.now) i))

-- the line at `at`, and those that begin after it
pub lines_at : (text : List ℕ) (at : ℕ) (s p : List ℕ) (r : Option (Bor (List ℕ))) → s ≡ drop at text → at < length text → p ≡ first_part 10 s → MatchOption r (s ≡ p) (λ x. s ≡ p ++ 10 ∷ x.now) → lines_of (drop at text) ≡ p ∷ lines_of (drop (at + length p + 1) text)
lines_at text at s p r is h first cut =
    let some : 0 < length s = omega (arith, ap length is, length-drop at text) in
    let next : at + (length p + 1) ≡ at + length p + 1 = omega arith in
    ap lines_of (sym is) ∙ line_next s p r some first cut
    ∙ ap (λ t. p ∷ lines_of t) (ap (drop (length p + 1)) is ∙ drop-drop (length p + 1) at text ∙ ap (λ j. drop j text) next)

pub rest_shorter : (s p : List ℕ) (r : Option (Bor (List ℕ))) (d w : Bor (List ℕ)) → MatchOption r (s ≡ p) (λ x. s ≡ p ++ 10 ∷ x.now) → d.now ≡ [] → w ≡ unwrap_or r d → length w.now ≤ length s
rest_shorter s p None d w cut none is = omega (arith, ap length none, ap (λ x. length x.now) is)
rest_shorter s p (Some x) d w cut none is = omega (arith, ap length cut, length-append p (10 ∷ x.now), ap (λ x. length x.now) is)

-- the field that is cut off at the first byte 9, and those after it
pub field_first : (s p : List ℕ) (r : Option (Bor (List ℕ))) → p ≡ first_part 9 s → MatchOption r (s ≡ p) (λ x. s ≡ p ++ 9 ∷ x.now) → fields_of s ≡ p ∷ fields_in r
field_first s p None first cut = parts_last 9 s (ap length (sym first ∙ sym cut)) ∙ ap (λ q. q ∷ []) cut
field_first s p (Some x) first cut = parts_more 9 ([] ∷ []) s x.now (cut ∙ ap (λ q. q ++ 9 ∷ x.now) first) ∙ ap (λ q. q ∷ fields_of x.now) (sym first)

pub lines_none : lines_of [] ≡ []
unfolding lines_of
lines_none = refl

pub no_lines : (s : List ℕ) → length s ≡ 0 → lines_of s ≡ []
no_lines [] e = lines_none
no_lines (c ∷ cs) e = absurd (omega arith)

-- each line has a byte, or an end
few_parts : (b : ℕ) (s : List ℕ) → length (parts b [] s) ≤ length s
few_parts b [] = omega arith
few_parts b (c ∷ cs) = cond_both (eqb c b) ([] ∷ parts b [] cs) (on_first c (parts b [] cs)) (λ p. length p ≤ length (c ∷ cs)) (λ _. omega (arith, few_parts b cs)) (λ _. some (parts b [] cs) (few_parts b cs))
  where
    some : (ps : List (List ℕ)) → length ps ≤ length cs → length (on_first c ps) ≤ length (c ∷ cs)
    some [] l = omega arith
    some (p ∷ ps) l = omega arith

pub few_lines : (s : List ℕ) → length (lines_of s) ≤ length s
unfolding lines_of
few_lines s = few_parts 10 s

-- each field but the last has a byte, or an end
pub few_fields : (s : List ℕ) → length (fields_of s) ≤ length s + 1
few_fields [] = omega arith
few_fields (c ∷ cs) = cond_both (eqb c 9) ([] ∷ fields_of cs) (on_first c (fields_of cs)) (λ p. length p ≤ length (c ∷ cs) + 1) (λ _. omega (arith, few_fields cs)) (λ _. some (fields_of cs) (few_fields cs))
  where
    some : (ps : List (List ℕ)) → length ps ≤ length cs + 1 → length (on_first c ps) ≤ length (c ∷ cs) + 1
    some [] l = omega arith
    some (p ∷ ps) l = omega arith
