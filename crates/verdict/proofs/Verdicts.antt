-- The verdict on tables is that on the source and the allocation that they hold.
use Rattle.std.proofs.Common.{◌≡◌, ℕ, ◌*◌, ◌≤◌, ◌⊎◌, List, length, get_or, take, sym, refl, ap, ◌∙◌, ap₂, subst₂, inl, inr, arith, get_or-take}
use mathlib.Core.Path.{fun_ext}
use lib.ListN.{get_or-map}
use Rattle.std.proofs.lemmas.List.{length-take-le}
use Rattle.allocation.specs.Lines.{line_of}
use Rattle.sets.specs.Least.{Least}
use Rattle.refusal.specs.declared.Refusal.{Refusal}
use Rattle.refusal.specs.declared.Refusal.TheVariants.{Mismatch}
use Rattle.source.specs.Nodes.{node_at, AllSound}
use Rattle.source.specs.Reading.{Source}
use Rattle.source.specs.Tables.{nodes_in, source_in}
use Rattle.source.specs.declared.heading.Heading.{Heading}
use Rattle.source.specs.declared.table.Table.{Table}
use Rattle.source.specs.declared.node.Node.{Node}
use Rattle.source.proofs.Soundness.{sound_is, is_sound}
use Rattle.allocation.specs.Allocations.{Line, Allocation, line_at, rows_in, moves_in, allocation_of}
use Rattle.allocation.specs.Ranges.{MovesFit, move_fits, row_at, move_at}
use Rattle.allocation.specs.declared.tables.Tables.{Tables}
use Rattle.allocation.specs.declared.line.Move.{Move}
use Rattle.allocation.specs.declared.line.Row.{Row}
use Rattle.equations.specs.Equations.{before, back_moves, memory_sets, Equations}
use Rattle.equations.specs.Questions.{Question, entry_question, Clear, Fails}
use Rattle.equations.specs.Verdict.{MatchesBelow, MismatchedAt, PassedBelow, FailedNode, Ready, Accepted, Refused, Left}
use Rattle.equations.proofs.Nodes.{sound_wider}

-- ---- nodes that are sound are so among more temporaries

pub all_wider : (v w : ℕ) (nodes : List Node) → v ≤ w → AllSound v nodes → AllSound w nodes
all_wider v w nodes h s n l = is_sound w (length nodes) (node_at nodes n) (sound_wider v w (length nodes) (length nodes) h (omega arith) (node_at nodes n) (sound_is v (length nodes) (node_at nodes n) (s n l)))

-- ---- what slices of the tables say of the source and the allocation

pub record View (s : Source) (a : Allocation) (nodes : List Node) (rows : List Row) (moves : List Move) : Type 0 where
  pub nodes_are : nodes ≡ s.nodes
  pub lines_are : (λ (k : ℕ). line_at moves (row_at rows k)) ≡ line_of a

module _ (h : Heading) (table : Table) (t : Tables) (nodes : List Node) (rows : List Row) (moves : List Move)
    (n-is : nodes ≡ nodes_in table) (r-is : rows ≡ rows_in t) (m-is : moves ≡ moves_in t) where
  pub view : View (source_in h table) (allocation_of t) nodes rows moves
  view = record {
    nodes_are = n-is;
    lines_are = ap₂ (λ (ms : List Move) (rs : List Row). λ (k : ℕ). line_at ms (row_at rs k)) m-is r-is ∙ fun_ext (λ (k : ℕ). sym (get_or-map (line_at (moves_in t)) (rows_in t) k _));
  }

  -- the entry moves, of which there are n
  pub entry_is : (n : ℕ) → n ≡ t.entry → take n moves ≡ (allocation_of t).entry
  entry_is n e = ap₂ (λ (k : ℕ) (ms : List Move). take k ms) e m-is

  -- they are some of all moves, which fit
  pub entry_fits : (n : ℕ) → n ≡ t.entry → MovesFit t.heading.registers t.heading.slots (take n moves)
  entry_fits n e k h =
      let short : n ≤ length moves = omega (arith, e, t.entry_within, ap length m-is) in
      let long : length (take n moves) ≡ n = length-take-le n moves short in
      ap (move_fits t.heading.registers t.heading.slots) (get_or-take n moves k _ (omega arith) ∙ ap (λ (ms : List Move). move_at ms k) m-is) ∙ t.moves_fit k (omega (arith, ap length m-is))

-- ---- the verdict

module _ (s : Source) (a : Allocation) (nodes : List Node) (rows : List Row) (moves : List Move) (v : View s a nodes rows moves) where
  -- what holds of the nodes and the lines of the slices holds of those of the source and the allocation
  moved : (P : List Node → (ℕ → Line) → Type 0) → P nodes (λ k. line_at moves (row_at rows k)) → P s.nodes (line_of a)
  moved P p = subst₂ P v.nodes_are v.lines_are p

  module _ (words words' : List ℕ) where
    abbrev pub lines : ℕ → Line
    lines k = line_at moves (row_at rows k)

    long : length nodes ≡ length s.nodes
    long = ap length v.nodes_are

    pub mismatched : (n : ℕ) → 64 * length nodes ≤ length words → MismatchedAt nodes lines n → words' ≡ words → Refused s a (length words) (memory_sets words') (Mismatch n) × Left s a words words'
    mismatched n room m same =
        let there : MismatchedAt s.nodes (line_of a) n = moved (λ ns l. MismatchedAt ns l n) m in (
          inr (inl (record { room = omega (arith, long); node = n; first = there; is = refl })),
          record { solved = λ r. absurd (there.here (r.matches n there.at)); others = λ r. absurd (there.here (r.matches n there.at)); kept = λ _. same },
        )

    module _ (room : 64 * length nodes ≤ length words) (matches : MatchesBelow nodes lines (length nodes))
        (least : Least (length nodes) (λ X n. before X (node_at nodes n) (lines n)) (memory_sets words')) where
      ready : Ready s a (length words)
      ready = record { room = omega (arith, long); matches = moved (λ ns l. MatchesBelow ns l (length ns)) matches }

      solved : Equations s a (memory_sets words')
      solved = moved (λ ns l. Least (length ns) (λ X n. before X (node_at ns n) (l n)) (memory_sets words')) least

      pub left : ((k : ℕ) → 64 * length nodes ≤ k → get_or words' k 0 ≡ get_or words k 0) → Left s a words words'
      left others = record { solved = λ _. solved; others = λ _ k l. others k (omega (arith, long)); kept = λ not. absurd (not ready) }

      passed : PassedBelow nodes lines (memory_sets words') (length nodes) → PassedBelow s.nodes (line_of a) (memory_sets words') (length s.nodes)
      passed p = moved (λ ns l. PassedBelow ns l (memory_sets words') (length ns)) p

      module _ (entry : List Move) (q : Question) (e-is : entry ≡ a.entry) (q-is : q ≡ entry_question s a) where
        pub accepted : PassedBelow nodes lines (memory_sets words') (length nodes) × Clear (back_moves entry (memory_sets words' 0)) q.forbids → Accepted s a (length words) (memory_sets words')
        accepted p = record {
          ready = ready;
          least = solved;
          nodes = passed p.0;
          entry = subst₂ (λ (ms : List Move) (x : Question). Clear (back_moves ms (memory_sets words' 0)) x.forbids) e-is q-is p.1;
        }

        pub refused : (f : Refusal) → FailedNode nodes lines (memory_sets words') f ⊎ (PassedBelow nodes lines (memory_sets words') (length nodes) × Fails q (back_moves entry (memory_sets words' 0)) f)
            → Refused s a (length words) (memory_sets words') f
        refused f (inl p) = inr (inr (inl (record { ready = ready; least = solved; first = moved (λ ns l. FailedNode ns l (memory_sets words') f) p })))
        refused f (inr p) =
            inr (inr (inr (record {
              ready = ready;
              least = solved;
              nodes = passed p.0;
              first = subst₂ (λ (ms : List Move) (x : Question). Fails x (back_moves ms (memory_sets words' 0)) f) e-is q-is p.1;
            })))
