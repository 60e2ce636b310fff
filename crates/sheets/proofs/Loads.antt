-- The worked source is loaded.
use Rattle.std.proofs.Common.{◌≡◌, ℕ, zero, suc, ◌^◌, ◌<◌, ◌≤◌, Bool, true, false, cond, not, ◌&&◌, ◌||◌, ◌⊎◌, List, [], ◌∷◌, length, get_or, set, Ok, sym, refl, ◌∙◌, ap₂, inl, inr, arith, lit<}
use Rattle.std.proofs.lemmas.Bool.{cases_lt, cases_Bool, and_parts, both_ways}
use Rattle.text.specs.Parts.{lines_of}
use Rattle.sets.specs.Masks.{bit, any, count, greatest}
use Rattle.sets.specs.Least.{Growing}
use Rattle.sets.proofs.Masks.{bit_high, any_below}
use Rattle.sets.proofs.Least.{updated, finish}
use Rattle.source.specs.Nodes.{AllSound, sound, node_at, operands, successors}
use Rattle.source.specs.declared.node.Node.{Node}
use Rattle.source.proofs.Soundness.{all_sound}
use Rattle.source.specs.Words.{opcodes}
use Rattle.source.specs.Reading.{read_source, heading_of, node_of, read_nodes}
use Rattle.loader.specs.Live.{reads, is_result, into, live_step, live_sets, Liveness, pressure}
use Rattle.loader.proofs.Ranges.{operands-below}
use Rattle.loader.proofs.Flow.{live_mono, set_updated, zeros_grow}
use Rattle.loader.specs.Load.{Granted}
use Rattle.sheets.specs.Texts.{text_a, source_a}

reads_a : read_source text_a ≡ Ok source_a
unfolding read_source lines_of heading_of node_of read_nodes opcodes
reads_a = refl

-- tests of all numbers below n

abbrev same : Bool → Bool → Bool
same a b = cond a b (not b)

same_is : (a b : Bool) → same a b ≡ true → a ≡ b
same_is true b e = sym e
same_is false true e = absurd (both_ways false refl e)
same_is false false e = refl

abbrev each : ℕ → (ℕ → Bool) → Bool
each zero p = true
each (suc n) p = p zero && each n (λ v. p (suc v))

each_at : (n : ℕ) (p : ℕ → Bool) → each n p ≡ true → (v : ℕ) → v < n → p v ≡ true
each_at zero p e v h = absurd (omega arith)
each_at (suc n) p e zero h = (and_parts (p zero) (each n (λ v. p (suc v))) e).0
each_at (suc n) p e (suc v) h = each_at n (λ w. p (suc w)) (and_parts (p zero) (each n (λ w. p (suc w))) e).1 v (omega arith)

none_in : {A : Type 0} (p : A → Bool) (xs : List A) → ((x : A) → p x ≡ false) → any p xs ≡ false
none_in p [] f = refl
none_in p (x ∷ xs) f = ap₂ ◌||◌ (f x) (none_in p xs f)

-- words computed node by node go up to the liveness

module _ (nodes : List Node) (k : ℕ) (sound : AllSound k nodes) where
  -- nothing is live that is no temporary
  high : (words : List ℕ) → ((m : ℕ) → get_or words m 0 < 2 ^ k) → (m : ℕ) → m < length nodes → (v : ℕ) → k ≤ v → into (live_sets words) (node_at nodes m) v ≡ false
  high words few m l v far =
      ap₂ (λ (a b : Bool). a || (b && not (is_result (node_at nodes m) v))) (unread (cases_Bool (reads (node_at nodes m) v))) (none_in (λ x. live_sets words x v) (successors (node_at nodes m)) (λ x. bit_high k (get_or words x 0) v (few x) far))
    where
      unread : (reads (node_at nodes m) v ≡ true) ⊎ (reads (node_at nodes m) v ≡ false) → reads (node_at nodes m) v ≡ false
      unread (inl e) = absurd (omega (arith, any_below k v (operands (node_at nodes m)) (operands-below k (length nodes) (node_at nodes m) (all_sound k nodes sound m l)) e))
      unread (inr e) = e

  -- a word that agrees at each temporary agrees
  agrees : (words : List ℕ) → ((m : ℕ) → get_or words m 0 < 2 ^ k) → (m w : ℕ) → m < length nodes → w < 2 ^ k → each k (λ v. same (bit w v) (into (live_sets words) (node_at nodes m) v)) ≡ true
      → (v : ℕ) → bit w v ≡ into (live_sets words) (node_at nodes m) v
  agrees words few m w l h e v = go (cases_lt v k)
    where
      go : (v < k) ⊎ (k ≤ v) → bit w v ≡ into (live_sets words) (node_at nodes m) v
      go (inl near) = same_is _ _ (each_at k (λ x. same (bit w x) (into (live_sets words) (node_at nodes m) x)) e v near)
      go (inr far) = bit_high k w v h far ∙ sym (high words few m l v far)

  visit : (words : List ℕ) → ((m : ℕ) → get_or words m 0 < 2 ^ k) → (m w : ℕ) → m < length words → m < length nodes → w < 2 ^ k → each k (λ v. same (bit w v) (into (live_sets words) (node_at nodes m) v)) ≡ true
      → Growing (length nodes) (live_step nodes) (live_sets words) → Growing (length nodes) (live_step nodes) (live_sets (set words m w))
  visit words few m w at l h e g = updated (length nodes) (live_step nodes) (live_mono k nodes sound) m g (set_updated nodes words m w at (agrees words few m w l h e))

-- five words below 16
few : (a b c d e : ℕ) → a < 16 → b < 16 → c < 16 → d < 16 → e < 16 → (m : ℕ) → get_or (a ∷ b ∷ c ∷ d ∷ e ∷ []) m 0 < 2 ^ 4
few a b c d e p q r s t zero = p
few a b c d e p q r s t (suc zero) = q
few a b c d e p q r s t (suc (suc zero)) = r
few a b c d e p q r s t (suc (suc (suc zero))) = s
few a b c d e p q r s t (suc (suc (suc (suc zero)))) = t
few a b c d e p q r s t (suc (suc (suc (suc (suc m))))) = omega arith

sound_a : AllSound 4 source_a.nodes
sound_a = each_at 5 (λ n. sound 4 5 (node_at source_a.nodes n)) refl

live_a : Liveness source_a.nodes (live_sets (3 ∷ 7 ∷ 11 ∷ 10 ∷ 8 ∷ []))
unfolding bit
live_a =
    let ns = source_a.nodes in
    let g0 = zeros_grow ns 5 (0 ∷ 0 ∷ 0 ∷ 0 ∷ 0 ∷ []) refl in
    let g4 = visit ns 4 sound_a (0 ∷ 0 ∷ 0 ∷ 0 ∷ 0 ∷ []) (few 0 0 0 0 0 (lit< tt) (lit< tt) (lit< tt) (lit< tt) (lit< tt)) 4 8 (lit< tt) (lit< tt) (lit< tt) refl g0 in
    let g3 = visit ns 4 sound_a (0 ∷ 0 ∷ 0 ∷ 0 ∷ 8 ∷ []) (few 0 0 0 0 8 (lit< tt) (lit< tt) (lit< tt) (lit< tt) (lit< tt)) 3 10 (lit< tt) (lit< tt) (lit< tt) refl g4 in
    let g2 = visit ns 4 sound_a (0 ∷ 0 ∷ 0 ∷ 10 ∷ 8 ∷ []) (few 0 0 0 10 8 (lit< tt) (lit< tt) (lit< tt) (lit< tt) (lit< tt)) 2 11 (lit< tt) (lit< tt) (lit< tt) refl g3 in
    let g1 = visit ns 4 sound_a (0 ∷ 0 ∷ 11 ∷ 10 ∷ 8 ∷ []) (few 0 0 11 10 8 (lit< tt) (lit< tt) (lit< tt) (lit< tt) (lit< tt)) 1 7 (lit< tt) (lit< tt) (lit< tt) refl g2 in
    let g = visit ns 4 sound_a (0 ∷ 7 ∷ 11 ∷ 10 ∷ 8 ∷ []) (few 0 7 11 10 8 (lit< tt) (lit< tt) (lit< tt) (lit< tt) (lit< tt)) 0 3 (lit< tt) (lit< tt) (lit< tt) refl g1 in
    let words = 3 ∷ 7 ∷ 11 ∷ 10 ∷ 8 ∷ [] in
    let all = few 3 7 11 10 8 (lit< tt) (lit< tt) (lit< tt) (lit< tt) (lit< tt) in
    finish 5 (live_step ns) g
    (λ n h v. agrees ns 4 sound_a words all n (get_or words n 0) h (all n) (each_at 5 (λ m. each 4 (λ x. same (bit (get_or words m 0) x) (into (live_sets words) (node_at ns m) x))) refl n h) v)

entry_a : (v : ℕ) → live_sets (3 ∷ 7 ∷ 11 ∷ 10 ∷ 8 ∷ []) 0 v ≡ true → v < 2
entry_a v e = go (cases_lt v 2)
  where
    go : (v < 2) ⊎ (2 ≤ v) → v < 2
    go (inl h) = h
    go (inr h) = absurd (both_ways (bit 3 v) (bit_high 2 3 v (lit< tt) h) e)

pressure_a : pressure 4 (live_sets (3 ∷ 7 ∷ 11 ∷ 10 ∷ 8 ∷ [])) 5 ≡ 3
unfolding bit count greatest
pressure_a = refl

pub loads_a : Granted text_a source_a (3 ∷ 7 ∷ 11 ∷ 10 ∷ 8 ∷ []) (4, 5, 3)
loads_a = record { read = reads_a; live = live_a; entry = entry_a; is = λ i. (4, 5, sym pressure_a i) }
