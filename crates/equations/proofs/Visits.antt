-- The sets of all nodes in work memory: cleared, then written anew, one node after the other.
use Rattle.std.proofs.Common.{◌≡◌, ℕ, ◌+◌, ◌-◌, ◌*◌, ◌^◌, ◌<◌, ◌≤◌, Bool, true, false, ◌&&◌, ltb, ◌⊎◌, List, ◌++◌, length, get_or, take, drop, replicate, sym, ap, ◌∙◌, subst, ap₂, inl, inr, arith, rules, get_or-drop}
use Rattle.std.proofs.lemmas.Bool.{cases_lt, lt-ltb, le-ltb}
use Rattle.std.proofs.lemmas.List.{places, take-append-drop, get_or_past, length-replicate, length-take-le, get_or_append_left, get_or-append_right}
use borrow.Rule.Slice.PartMut.{put_mid}
use Rattle.sets.specs.Masks.{bit}
use Rattle.sets.specs.Least.{Growing, room}
use Rattle.sets.proofs.Masks.{bit-zero, within_le}
use Rattle.sets.proofs.Least.{Updated, start}
use Rattle.sets.proofs.Turns.{Turn, turn_same, turn_set, zeros_at}
use Rattle.source.specs.declared.node.Node.{Node}
use Rattle.allocation.specs.Allocations.{line_at}
use Rattle.allocation.specs.Ranges.{row_at}
use Rattle.allocation.specs.declared.line.Move.{Move}
use Rattle.allocation.specs.declared.line.Row.{Row}
use Rattle.equations.specs.Equations.{held, memory_sets}
use Rattle.equations.specs.Steps.{step_in, Stored}
use Rattle.equations.proofs.Reach.{Reach}
use Rattle.equations.proofs.Growth.{Sub, step_mono}

-- ---- a set written to its words

-- a part written back leaves what was there
pub put_same : (a k : ℕ) (xs : List ℕ) → put_mid a k xs (take k (drop a xs)) ≡ xs
put_same a k xs = ap (λ (ys : List ℕ). take a xs ++ ys) (take-append-drop k (drop a xs)) ∙ take-append-drop a xs

-- a part written over
pub put_stored : (words : List ℕ) (at k : ℕ) (row mid : List ℕ) → k ≡ 64 → at + 64 ≤ length words → length row ≡ 64 → mid ≡ row → Stored words at row (put_mid at k words mid)
put_stored words at k row mid is fits long e = record { here = λ l h. search (rules, places); others = λ j h. search (rules, places) }

-- words that grow where the set stands, and stay elsewhere
pub stored_grows : (words : List ℕ) (at : ℕ) (row words' : List ℕ) → length row ≡ 64 → Stored words at row words' → ((l : ℕ) → l < 64 → get_or words (at + l) 0 ≤ get_or row l 0)
    → (k : ℕ) → k < length words → get_or words k 0 ≤ get_or words' k 0
stored_grows words at row words' long s grows k h = go (cases_lt k at) (cases_lt k (at + 64))
  where
    go : (k < at) ⊎ (at ≤ k) → (k < at + 64) ⊎ (at + 64 ≤ k) → get_or words k 0 ≤ get_or words' k 0
    go (inl l) r = omega (arith, s.others k (λ g. omega arith))
    go (inr l) (inr r) = omega (arith, s.others k (λ g. omega arith))
    go (inr l) (inl r) =
        let e : at + (k - at) ≡ k = omega arith in
        let more : get_or words (at + (k - at)) 0 ≤ get_or words' (at + (k - at)) 0 = omega (arith, grows (k - at) (omega arith), s.here (k - at) (omega arith)) in
        subst (λ (x : ℕ). get_or words x 0 ≤ get_or words' x 0) e more

-- ---- a visit of the node n

-- what is stored at a node is its set, and no other node's words change
pub stored_updated : (F : (ℕ → ℕ × ℕ → Bool) → ℕ → ℕ × ℕ → Bool) (N : ℕ) (words row words' : List ℕ) (n : ℕ) → length row ≡ 64 → Stored words (64 * n) row words'
    → held row ≡ F (memory_sets words) n → Updated N F (memory_sets words) (memory_sets words') n
unfolding memory_sets held
stored_updated F N words row words' n long s is = record {
  here = λ e. here e (cases_lt e.0 64) ∙ ap (λ (E : ℕ × ℕ → Bool). E e) is;
  others = λ m ne e. others m ne e (cases_lt e.0 64);
}
  where
    here : (e : ℕ × ℕ) → (e.0 < 64) ⊎ (64 ≤ e.0) → (ltb e.0 64 && bit (get_or words' (64 * n + e.0) 0) e.1) ≡ bit (get_or row e.0 0) e.1
    here e (inl h) = ap₂ ◌&&◌ (lt-ltb e.0 64 h) (ap (λ (x : ℕ). bit x e.1) (s.here e.0 (omega arith)))
    here e (inr h) =
        ap (λ (b : Bool). b && bit (get_or words' (64 * n + e.0) 0) e.1) (le-ltb e.0 64 h)
        ∙ sym (bit-zero e.1) ∙ ap (λ (x : ℕ). bit x e.1) (sym (get_or_past row e.0 0 (omega arith)))

    others : (m : ℕ) → (m ≡ n → ⊥) → (e : ℕ × ℕ) → (e.0 < 64) ⊎ (64 ≤ e.0) → (ltb e.0 64 && bit (get_or words' (64 * m + e.0) 0) e.1) ≡ (ltb e.0 64 && bit (get_or words (64 * m + e.0) 0) e.1)
    others m ne e (inl h) = ap (λ (x : ℕ). ltb e.0 64 && bit x e.1) (s.others (64 * m + e.0) (λ g. omega arith))
    others m ne e (inr h) =
        ap (λ (b : Bool). b && bit (get_or words' (64 * m + e.0) 0) e.1) (le-ltb e.0 64 h)
        ∙ sym (ap (λ (b : Bool). b && bit (get_or words (64 * m + e.0) 0) e.1) (le-ltb e.0 64 h))

-- a set that grows has greater words
pub word_grows : (words row : List ℕ) (E : ℕ × ℕ → Bool) (n l : ℕ) → l < 64 → get_or words (64 * n + l) 0 < 2 ^ 64 → held row ≡ E → Sub (memory_sets words n) E → get_or words (64 * n + l) 0 ≤ get_or row l 0
unfolding memory_sets held
word_grows words row E n l h fits is s = within_le 64 (get_or words (64 * n + l) 0) (get_or row l 0) fits (λ v e. ap (λ (F : ℕ × ℕ → Bool). F (l, v)) is ∙ s (l, v) (ap₂ ◌&&◌ (lt-ltb l 64 h) e))

abbrev pub Visited : List Node → List Row → List Move → List ℕ → List ℕ → ℕ → Bool → Type 0
Visited nodes rows moves = Turn (length nodes) (step_in nodes rows moves) memory_sets

module _ (nodes : List Node) (rows : List Row) (moves : List Move) (reach : Reach nodes rows moves) (first words row words' : List ℕ) (n m : ℕ) (changed : Bool)
    (t : Visited nodes rows moves first words n changed) (near : n ≤ m + 1) (long : length row ≡ 64) (s : Stored words (64 * m) row words')
    (is : held row ≡ step_in nodes rows moves (memory_sets words) m) where
  pub visit_same : words' ≡ words → Visited nodes rows moves first words' m changed
  visit_same e =
      let N = length nodes in
      let F = step_in nodes rows moves in
      let u = stored_updated F N words row words' m long s is in
      let here : (x : ℕ × ℕ) → memory_sets words m x ≡ F (memory_sets words) m x = λ x. ap (λ (w : List ℕ). memory_sets w m x) (sym e) ∙ u.here x in
      subst (λ (w : List ℕ). Visited nodes rows moves first w m changed) (sym e) (turn_same N F memory_sets first words n m changed near t here)

  pub visit_set : room words' < room words → Visited nodes rows moves first words' m true
  visit_set fall =
      turn_set (length nodes) (step_in nodes rows moves) memory_sets (step_mono 64 nodes (λ k. line_at moves (row_at rows k)) reach.node) first words words' n m changed t
      (stored_updated (step_in nodes rows moves) (length nodes) words row words' m long s is) fall

-- ---- cleared memory

pub cleared_grow : (N : ℕ) (F : (ℕ → ℕ × ℕ → Bool) → ℕ → ℕ × ℕ → Bool) (words : List ℕ) → ((k : ℕ) → k < 64 * N → get_or words k 0 ≡ 0) → Growing N F (memory_sets words)
unfolding memory_sets
cleared_grow N F words zero-at = start N F (memory_sets words) (λ n h e. go n h e (cases_lt e.0 64))
  where
    go : (n : ℕ) → n < N → (e : ℕ × ℕ) → (e.0 < 64) ⊎ (64 ≤ e.0) → (ltb e.0 64 && bit (get_or words (64 * n + e.0) 0) e.1) ≡ false
    go n h e (inl l) = ap₂ ◌&&◌ (lt-ltb e.0 64 l) (ap (λ (x : ℕ). bit x e.1) (zero-at (64 * n + e.0) (omega arith)) ∙ bit-zero e.1)
    go n h e (inr l) = ap (λ (b : Bool). b && bit (get_or words (64 * n + e.0) 0) e.1) (le-ltb e.0 64 l)

-- the front of work memory, filled with zeros
pub front_filled : (words : List ℕ) (n : ℕ) (front : List ℕ) → n ≤ length words → front ≡ replicate (length (take n words)) 0
    → ((k : ℕ) → k < n → get_or (front ++ drop n words) k 0 ≡ 0) × ((k : ℕ) → n ≤ k → get_or (front ++ drop n words) k 0 ≡ get_or words k 0)
front_filled words n front le e =
    let long : length front ≡ n = ap length e ∙ length-replicate (length (take n words)) 0 ∙ length-take-le n words le in (
      λ k h. get_or_append_left front (drop n words) 0 k (omega arith) ∙ ap (λ (x : List ℕ). get_or x k 0) e ∙ zeros_at (length (take n words)) k,
      λ k h. let back : n + (k - n) ≡ k = omega arith in get_or-append_right front (drop n words) n k 0 long h ∙ get_or-drop n words (k - n) 0 ∙ ap (λ (x : ℕ). get_or words x 0) back,
    )
