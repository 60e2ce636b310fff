-- Published lines are well formed.
use Rattle.std.proofs.Common.{◌≡◌, ℕ, zero, suc, ◌+◌, ◌-◌, ◌^◌, ◌<◌, ◌≤◌, Bool, true, false, cond, ◌&&◌, ◌||◌, eqb, ltb, List, [], ◌∷◌, length, refl, inl, inr, arith}
use Rattle.std.proofs.ByRecursion.{All-append, All-map, All-from_get_or}
use Rattle.std.proofs.lemmas.List.{length-map}
use Rattle.std.proofs.lemmas.Bool.{ltb-true, lt-ltb, or_left, or_right, and_parts, and_from}
use Rattle.source.specs.Nodes.{Sound}
use Rattle.source.specs.declared.node.Node.{Node}
use Rattle.source.specs.declared.node.Node.TheVariants.{Const, Mov, Binary, Call, Branch, Return}
use Rattle.source.proofs.Soundness.{all_sound}
use Rattle.allocation.specs.Ranges.{move_fits}
use Rattle.allocation.specs.WellFormed.{MovesIn, LineIn}
use Rattle.allocation.specs.declared.line.Move.{Move}
use Rattle.places.specs.Places.{locations, IsPlace}
use Rattle.places.specs.Publish.{◌⇐◌, register_for, bring, bring_two, send, copy, first_register, second_register, published_line, entry_moves}
use Rattle.places.specs.Laws.{PublishedLinesWellFormed}
use Rattle.places.proofs.Count.{published_lines_few}

module _ (R S : ℕ) (big : 3 ≤ R) where
  abbrev Fits : List Move → Type 0
  Fits ms = MovesIn R S ms

  fits : (l m : ℕ) → l < R + S → m < R + S → (ltb l R || ltb m R) ≡ true → move_fits R S (l ⇐ m) ≡ true
  fits l m hl hm one = and_from _ _ (and_from _ _ (lt-ltb l (R + S) hl) (lt-ltb m (R + S) hm)) one

  pub to_register : (t l : ℕ) → t < R → l < R + S → move_fits R S (t ⇐ l) ≡ true
  to_register t l h k = fits t l (omega arith) k (or_left _ _ (lt-ltb t R h))

  pub from_register : (t l : ℕ) → t < R → l < R + S → move_fits R S (l ⇐ t) ≡ true
  from_register t l h k = fits l t k (omega arith) (or_right (ltb l R) _ (lt-ltb t R h))

  bring_fits : (t l : ℕ) → t < R → l < R + S → Fits (bring R t l)
  bring_fits t l h k = go (ltb l R)
    where
      go : (b : Bool) → Fits (cond b [] ((t ⇐ l) ∷ []))
      go true = tt
      go false = (to_register t l h k, tt)

  send_fits : (l : ℕ) → l < R + S → Fits (send R l)
  send_fits l k = go (ltb l R)
    where
      go : (b : Bool) → Fits (cond b [] ((l ⇐ (R - 2)) ∷ []))
      go true = tt
      go false = (from_register (R - 2) l (omega arith) k, tt)

  two_fit : (l m : ℕ) → l < R + S → m < R + S → Fits (bring_two R l m)
  two_fit l m h k = All-append (λ x. move_fits R S x ≡ true) (bring R (R - 2) l) (bring R (R - 1) m) (bring_fits (R - 2) l (omega arith) h) (bring_fits (R - 1) m (omega arith) k)

  copy_fits : (l m : ℕ) → l < R + S → m < R + S → Fits (copy R l m)
  copy_fits l m h k = go (eqb l m) (ltb l R || ltb m R) refl
    where
      go : (a b : Bool) → (ltb l R || ltb m R) ≡ b → Fits (cond a [] (cond b ((l ⇐ m) ∷ []) (((R - 2) ⇐ m) ∷ (l ⇐ (R - 2)) ∷ [])))
      go true b e = tt
      go false true e = (fits l m h k e, tt)
      go false false e = (to_register (R - 2) m (omega arith) k, (from_register (R - 2) l (omega arith) h, tt))

  register_low : (t l : ℕ) → t < R → register_for R t l < R
  register_low t l h = go (ltb l R) refl
    where
      go : (b : Bool) → ltb l R ≡ b → cond b l t < R
      go true e = ltb-true l R e
      go false e = h

  module _ (place : ℕ → ℕ) (inside : (v : ℕ) → v < S → place v < R + S) where
    first : (v : ℕ) → ltb (first_register R place v) R ≡ true
    first v = lt-ltb _ R (register_low (R - 2) (place v) (omega arith))

    second : (v : ℕ) → ltb (second_register R place v) R ≡ true
    second v = lt-ltb _ R (register_low (R - 1) (place v) (omega arith))

    pub line_fits_lem : (N : ℕ) (node : Node) → Sound S N node → LineIn R S (published_line R place node)
    line_fits_lem N (Const d k next) h = record { ins_in = tt; main_in = and_from _ _ (first d) (lt-ltb k (2 ^ 32) h.1); outs_in = send_fits (place d) (inside d h.0); alts_in = tt; shaped = refl }
    line_fits_lem N (Mov d a next) h = record { ins_in = tt; main_in = refl; outs_in = copy_fits (place d) (place a) (inside d h.0) (inside a h.1); alts_in = tt; shaped = refl }
    line_fits_lem N (Binary o d a b next) h =
        record { ins_in = two_fit (place a) (place b) (inside a h.1) (inside b h.2); main_in = and_from _ _ (first d) (and_from _ _ (first a) (second b)); outs_in = send_fits (place d) (inside d h.0); alts_in = tt; shaped = refl }
    line_fits_lem N (Call d g a b next) h =
        record { ins_in = two_fit (place a) (place b) (inside a h.2) (inside b h.3); main_in = and_from _ _ (first d) (and_from _ _ (lt-ltb g 256 h.1) (and_from _ _ (first a) (second b))); outs_in = send_fits (place d) (inside d h.0); alts_in = tt; shaped = refl }
    line_fits_lem N (Branch c a b taken other) h = record { ins_in = two_fit (place a) (place b) (inside a h.0) (inside b h.1); main_in = and_from _ _ (first a) (second b); outs_in = tt; alts_in = tt; shaped = tt }
    line_fits_lem N (Return a) h = record { ins_in = bring_fits (R - 2) (place a) (omega arith) (inside a h); main_in = first a; outs_in = tt; alts_in = tt; shaped = (refl, refl) }

    entry_fits : (live : ℕ → Bool) (i k : ℕ) → i + k ≤ S → Fits (entry_moves R place live i k)
    entry_fits live i zero h = tt
    entry_fits live i (suc k) h = go (live i && ltb (place i) R) refl (entry_moves R place live (suc i) k) (entry_fits live (suc i) k (omega arith))
      where
        go : (b : Bool) → (live i && ltb (place i) R) ≡ b → (ms : List Move) → Fits ms → Fits (cond b ((place i ⇐ (R + i)) ∷ ms) ms)
        go true e ms w = (to_register (place i) (R + i) (ltb-true (place i) R (and_parts (live i) _ e).1) (omega arith), w)
        go false e ms w = w

pub place_inside : (R V : ℕ) (place : ℕ → ℕ) → ((v : ℕ) → IsPlace R v (place v)) → (v : ℕ) → v < V → place v < R + V
place_inside R V place placed v h = elim (placed v) [ inl l ↦ omega arith | inr e ↦ omega arith ]

pub published_lines_well_formed_lem : PublishedLinesWellFormed
published_lines_well_formed_lem s L R ps ok few short low high c =
    record { registers_low = low; registers_high = high; slots_low = ok.within; slots_high = ok.few; nodes = length-map s.nodes _; few_nodes = short; few_moves = omega (arith, (published_lines_few s L R ps few).1); entry_in = entry_fits R V low (locations R ps) inside (L 0) 0 s.parameters (omega (arith, ok.within)); lines_in = All-map (LineIn R V) (published_line R (locations R ps)) s.nodes (All-from_get_or (λ n. LineIn R V (published_line R (locations R ps) n)) s.nodes (Const 0 0 0) (λ n h. line_fits_lem R V low (locations R ps) inside (length s.nodes) _ (all_sound V s.nodes ok.sound n h))) }
  where
    V : ℕ
    V = s.temporaries

    inside : (v : ℕ) → v < V → locations R ps v < R + V
    inside = place_inside R V (locations R ps) c.placed
