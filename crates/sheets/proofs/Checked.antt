-- What a check says of the worked allocations, by visits on lists.
use Rattle.std.proofs.Common.{◌≡◌, ℕ, zero, suc, ◌<◌, ◌≤◌, Bool, List, [], ◌∷◌, Ok, refl, ap, ◌∙◌, inl, inr, arith, lit<, lit≤}
use Rattle.sets.specs.Masks.{Below}
use Rattle.source.specs.Nodes.{AllSound, sound, node_at}
use Rattle.source.specs.declared.node.Operation.TheVariants.{Add}
use Rattle.refusal.specs.declared.Refusal.TheVariants.{Elsewhere, Overwritten, NeverSet, Foreign}
use Rattle.allocation.specs.declared.line.Move.{Move}
use Rattle.allocation.specs.declared.line.Main.{Main}
use Rattle.allocation.specs.declared.line.Main.TheVariants.{Skip, Binary}
use Rattle.text.specs.Parts.{lines_of}
use Rattle.source.specs.Words.{opcodes}
use Rattle.source.specs.Reading.{read_source, node_of, read_nodes}
use Rattle.source.specs.Reading.{heading_of as source_heading}
use Rattle.reading.specs.Reading.{read_allocation, run, one_line}
use Rattle.allocation.specs.Items.{item_of}
use Rattle.allocation.specs.Headings.{heading_of}
use Rattle.allocation.specs.Words.{words}
use Rattle.allocation.specs.Lines.{line_of}
use Rattle.equations.specs.Questions.{Matches}
use Rattle.equations.specs.Verdict.{Ready}
use Rattle.sheets.specs.Texts.{source_a}
use Rattle.sheets.specs.Checks.{move, worked, text_b, allocation_b, source_c, source_text_c, text_c, allocation_c, Accepts, Refuses, Before}
use Rattle.sheets.proofs.Listed.{each_at, row, rows, least, same_listed, known, passes, fails, clears, enters, enters_not}

-- what is shown of 0, 1, .. holds of each number below n
abbrev Each : ℕ → (ℕ → Type 0) → Type 0
Each zero P = Unit {0}
Each (suc n) P = P 0 × Each n (λ k. P (suc k))

shown : (n : ℕ) (P : ℕ → Type 0) → Each n P → (k : ℕ) → k < n → P k
shown zero P t k h = absurd (omega arith)
shown (suc n) P t zero h = t.0
shown (suc n) P t (suc k) h = shown n (λ j. P (suc j)) t.1 k (omega arith)

sound_a : AllSound 4 source_a.nodes
sound_a = each_at 5 (λ n. sound 4 5 (node_at source_a.nodes n)) refl

-- one visit of each node suffices, from the last to the first
abbrev back_a : List ℕ
back_a = 4 ∷ 3 ∷ 2 ∷ 1 ∷ 0 ∷ []

all_a : Below 5 back_a
all_a = (lit< tt, (lit< tt, (lit< tt, (lit< tt, (lit< tt, tt)))))

ready_a : (entry : List Move) (main : Main) → Matches (node_at source_a.nodes 0) main → (size : ℕ) → 320 ≤ size → Ready source_a (worked entry main) size
ready_a entry main first size room = record {
  room = room;
  matches = shown 5 (λ k. Matches (node_at source_a.nodes k) (line_of (worked entry main) k).main) (first, (refl, (refl, (refl, (refl, tt)))));
}

pub reads_b : read_allocation 2 5 text_b ≡ Ok allocation_b
unfolding read_allocation run one_line item_of heading_of words lines_of
reads_b = refl

pub accepted_b : Accepts source_a allocation_b
accepted_b = (
  (_, least source_a allocation_b sound_a back_a all_a refl),
  λ size room X x. record {
    ready = ready_a (move 1 5 ∷ []) (Binary Add 0 2 1) refl size room;
    least = x;
    nodes = passes source_a allocation_b sound_a back_a all_a refl X x 5 (lit≤ tt) refl;
    entry = enters source_a allocation_b sound_a back_a all_a refl X x (lit< tt) refl;
  },
)

pub before_b : Before source_a allocation_b 2 ((4, 0) ∷ (1, 1) ∷ (0, 3) ∷ [])
before_b X x e =
    ap (λ (E : ℕ × ℕ → Bool). E e) (known source_a allocation_b sound_a back_a all_a refl X x 2 (lit< tt))
    ∙ same_listed (row (rows source_a allocation_b sound_a back_a all_a refl) 2) ((4, 0) ∷ (1, 1) ∷ (0, 3) ∷ []) refl e

pub elsewhere_b : Refuses source_a (worked (move 1 5 ∷ []) (Binary Add 1 2 1)) (Elsewhere 0 2 0)
elsewhere_b = (
  (_, least source_a (worked (move 1 5 ∷ []) (Binary Add 1 2 1)) sound_a back_a all_a refl),
  λ size room X x.
      let a = worked (move 1 5 ∷ []) (Binary Add 1 2 1) in
      inr (inr (inl (record {
        ready = ready_a (move 1 5 ∷ []) (Binary Add 1 2 1) refl size room;
        least = x;
        first = record {
          node = 0;
          at = lit< tt;
          before = λ k h. absurd (omega arith);
          here = inl (fails source_a a sound_a back_a all_a refl X x 0 (lit< tt) _ (0, 2) refl);
        };
      }))),
)

pub never_set_b : Refuses source_a (worked (move 1 5 ∷ []) Skip) (NeverSet 0 2 0)
never_set_b = (
  (_, least source_a (worked (move 1 5 ∷ []) Skip) sound_a back_a all_a refl),
  λ size room X x.
      let a = worked (move 1 5 ∷ []) Skip in
      inr (inr (inl (record {
        ready = ready_a (move 1 5 ∷ []) Skip refl size room;
        least = x;
        first = record {
          node = 0;
          at = lit< tt;
          before = λ k h. absurd (omega arith);
          here = inl (fails source_a a sound_a back_a all_a refl X x 0 (lit< tt) _ (0, 2) refl);
        };
      }))),
)

pub foreign_b : Refuses source_a (worked [] (Binary Add 0 2 1)) (Foreign 1 1)
foreign_b = (
  (_, least source_a (worked [] (Binary Add 0 2 1)) sound_a back_a all_a refl),
  λ size room X x.
      let a = worked [] (Binary Add 0 2 1) in
      inr (inr (inr (record {
        ready = ready_a [] (Binary Add 0 2 1) refl size room;
        least = x;
        nodes = passes source_a a sound_a back_a all_a refl X x 5 (lit≤ tt) refl;
        first = enters_not source_a a sound_a back_a all_a refl X x (lit< tt) (1, 1) refl;
      }))),
)

-- ---- the source with a loop

pub reads_source_c : read_source source_text_c ≡ Ok source_c
unfolding read_source source_heading node_of read_nodes opcodes lines_of
reads_source_c = refl

pub reads_c : read_allocation 1 4 text_c ≡ Ok allocation_c
unfolding read_allocation run one_line item_of heading_of words lines_of
reads_c = refl

sound_c : AllSound 2 source_c.nodes
sound_c = each_at 4 (λ n. sound 2 4 (node_at source_c.nodes n)) refl

-- two turns, since the loop brings new equations to its end
abbrev back_c : List ℕ
back_c = 3 ∷ 2 ∷ 1 ∷ 0 ∷ 2 ∷ 1 ∷ 0 ∷ []

all_c : Below 4 back_c
all_c = (lit< tt, (lit< tt, (lit< tt, (lit< tt, (lit< tt, (lit< tt, (lit< tt, tt)))))))

pub overwritten_c : Refuses source_c allocation_c (Overwritten 1 1 0)
overwritten_c = (
  (_, least source_c allocation_c sound_c back_c all_c refl),
  λ size room X x.
      inr (inr (inl (record {
        ready = record { room = room; matches = shown 4 (λ k. Matches (node_at source_c.nodes k) (line_of allocation_c k).main) (refl, (refl, (refl, (refl, tt)))) };
        least = x;
        first = record {
          node = 1;
          at = lit< tt;
          before = passes source_c allocation_c sound_c back_c all_c refl X x 1 (lit≤ tt) refl;
          here = inr (
            clears source_c allocation_c sound_c back_c all_c refl X x 1 (lit< tt) _ refl,
            inl (fails source_c allocation_c sound_c back_c all_c refl X x 1 (lit< tt) _ (0, 1) refl),
          );
        };
      }))),
)
