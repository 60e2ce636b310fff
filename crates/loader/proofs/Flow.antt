-- Liveness: the equations are monotone, a pass over the nodes goes up to the least solution, and what is live is a temporary.
use Rattle.std.proofs.Common.{◌≡◌, ℕ, ◌+◌, ◌^◌, ◌<◌, ◌≤◌, Bool, true, false, not, ◌&&◌, ltb, ◌≢◌, ◌⊎◌, List, length, get_or, set, replicate, sym, ap, ◌∙◌, inl, inr, ⊎_elim, arith, get_or-set_other, get_or-set_same}
use Rattle.std.proofs.lemmas.Bool.{and_parts, or_cases, cases_Bool, lt-ltb, ltb-true}
use Rattle.sets.specs.Masks.{bit, count, greatest}
use Rattle.sets.specs.Least.{Within, Closed, Growing}
use Rattle.sets.proofs.Masks.{bit-zero, within_le, or_mono, and_mono, any_mono, any_below, any_const, greatest_same, count_cut}
use Rattle.sets.proofs.Least.{Monotone, Updated, start, least_unique}
use Rattle.sets.proofs.Turns.{Turn, turn_same, turn_set, room_falls, zeros_at}
use Rattle.source.specs.Nodes.{operands, successors, node_at, Sound, AllSound}
use Rattle.source.specs.declared.node.Node.{Node}
use Rattle.source.proofs.Soundness.{all_sound}
use Rattle.loader.specs.Live.{out_of, reads, is_result, into, live_step, live_sets, Liveness, pressure, Ready}
use Rattle.loader.proofs.Ranges.{operands-below, successors-below}

-- a union over successors grows with its family
pub out_mono : {K : Type 0} (N v : ℕ) (X Y : ℕ → K → Bool) → Within N X Y → (node : Node) → Sound v N node → (x : K) → out_of X node x ≡ true → out_of Y node x ≡ true
out_mono N v X Y w node s x e = any_mono N (λ m. X m x) (λ m. Y m x) (successors node) (successors-below v N node s) (λ m l. w m l x) e

module _ (v : ℕ) (nodes : List Node) (sound : AllSound v nodes) where
  pub live_mono : Monotone (length nodes) (live_step nodes)
  live_mono X Y w n l x e =
      let node = node_at nodes n in
      or_mono (reads node x) (out_of X node x && not (is_result node x)) (reads node x) (out_of Y node x && not (is_result node x)) (λ h. h)
      (and_mono (out_of X node x) (not (is_result node x)) (out_of Y node x) (out_mono (length nodes) v X Y w node (all_sound v nodes sound n l) x)) e

  -- what is live is a temporary of the source
  pub live_below : (L : ℕ → ℕ → Bool) → Liveness nodes L → (n : ℕ) → n < length nodes → (t : ℕ) → L n t ≡ true → t < v
  live_below L live n h t e = ltb-true t v (live.least (λ _ w. ltb w v) closed n h t e)
    where
      closed : Closed (length nodes) (live_step nodes) (λ _ w. ltb w v)
      closed m l w q =
          let node = node_at nodes m in
          ⊎_elim
          (λ r. lt-ltb w v (any_below v w (operands node) (operands-below v (length nodes) node (all_sound v nodes sound m l)) r))
          (λ r. any_const (ltb w v) (successors node) (and_parts (out_of (λ _ x. ltb x v) node w) (not (is_result node w)) r).0)
          (or_cases (reads node w) (out_of (λ _ x. ltb x v) node w && not (is_result node w)) q)

  -- so that the pressure counts the source's temporaries only
  pub pressure-below : (L : ℕ → ℕ → Bool) → Liveness nodes L → (k : ℕ) → v ≤ k → pressure k L (length nodes) ≡ pressure v L (length nodes)
  pressure-below L live k few = greatest_same _ _ (length nodes) (λ n h. count_cut k v (L n) few (λ t l. none n h t l (cases_Bool (L n t))))
    where
      none : (n : ℕ) → n < length nodes → (t : ℕ) → v ≤ t → (L n t ≡ true) ⊎ (L n t ≡ false) → L n t ≡ false
      none n h t l (inl p) = absurd (omega (arith, live_below L live n h t p))
      none n h t l (inr p) = p

  -- the answer of a survey that finds no temporary unset
  pub ready : (parameters : ℕ) (words : List ℕ) (g : ℕ) → v ≤ 64 → length words ≡ length nodes → Liveness nodes (live_sets words)
      → ((t : ℕ) → live_sets words 0 t ≡ true → t < parameters) → g ≡ greatest (λ n. count 64 (live_sets words n)) (length words) → Ready nodes parameters v words g
  ready parameters words g few len live entry e = record {
    live = live;
    entry = entry;
    most = e ∙ ap (greatest (λ n. count 64 (live_sets words n))) len ∙ pressure-below (live_sets words) live 64 few;
  }

-- the liveness of a source is one family
pub liveness_unique : (nodes : List Node) (L M : ℕ → ℕ → Bool) → Liveness nodes L → Liveness nodes M → (n : ℕ) → n < length nodes → (v : ℕ) → L n v ≡ M n v
liveness_unique nodes L M a b = least_unique (length nodes) (live_step nodes) a b

-- a word that is written
pub set_updated : (nodes : List Node) (words : List ℕ) (m w : ℕ) → m < length words → ((v : ℕ) → bit w v ≡ into (live_sets words) (node_at nodes m) v)
    → Updated (length nodes) (live_step nodes) (live_sets words) (live_sets (set words m w)) m
set_updated nodes words m w l is = record {
  here = λ v. ap (λ (x : ℕ). bit x v) (get_or-set_same words m w 0 l) ∙ is v;
  others = λ n ne v. ap (λ (x : ℕ). bit x v) (get_or-set_other words m n w 0 ne);
}

-- ---- a visit of the node m

abbrev pub LiveTurn : List Node → List ℕ → List ℕ → ℕ → Bool → Type 0
LiveTurn nodes = Turn (length nodes) (live_step nodes) live_sets

module _ (nodes : List Node) (sound : AllSound 64 nodes) (first live : List ℕ) (n m w : ℕ) (changed : Bool) (t : LiveTurn nodes first live n changed) (near : n ≤ m + 1)
    (len : length live ≡ length nodes) (lt : m < length nodes) (is : (v : ℕ) → bit w v ≡ into (live_sets live) (node_at nodes m) v) where
  pub live_same : w ≡ get_or live m 0 → LiveTurn nodes first live m changed
  live_same e = turn_same (length nodes) (live_step nodes) live_sets first live n m changed near t (λ v. ap (λ (x : ℕ). bit x v) (sym e) ∙ is v)

  pub live_set : w ≢ get_or live m 0 → get_or live m 0 < 2 ^ 64 → LiveTurn nodes first (set live m w) m true
  live_set ne fits =
      let at : m < length live = omega (arith, len) in
      let grown : get_or live m 0 ≤ w = within_le 64 (get_or live m 0) w fits (λ v e. is v ∙ t.growing.grows m lt v e) in
      let more : get_or live m 0 < w = omega arith in
      turn_set (length nodes) (live_step nodes) live_sets (live_mono 64 nodes sound) first live (set live m w) n m changed t (set_updated nodes live m w at is) (room_falls live m w at fits more)

-- empty sets grow
pub zeros_grow : (nodes : List Node) (k : ℕ) (words : List ℕ) → words ≡ replicate k 0 → Growing (length nodes) (live_step nodes) (live_sets words)
zeros_grow nodes k words e = start (length nodes) (live_step nodes) (live_sets words) (λ n _ v. ap (λ (x : List ℕ). live_sets x n v) e ∙ ap (λ (x : ℕ). bit x v) (zeros_at k n) ∙ bit-zero v)
