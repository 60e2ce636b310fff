-- How the lines of an allocation are put together.
use Rattle.std.proofs.Common.{◌≡◌, ℕ, List, [], ◌∷◌, ◌++◌, map, length, take, sym, refl, ap, ◌∙◌}
use Rattle.std.proofs.lemmas.List.{append_assoc, length-map}
use Rattle.text.specs.Parts.{ended, written}
use Rattle.text.proofs.Writing.{Joins}
use Rattle.allocation.specs.declared.line.Move.{Move}
use Rattle.allocation.specs.declared.line.Main.TheVariants.{Skip}
use Rattle.allocation.specs.declared.line.Row.{Row}
use Rattle.allocation.specs.declared.words.Edge.{Edge}
use Rattle.allocation.specs.declared.words.Edge.TheVariants.{Entry, In, Out, Alt}
use Rattle.allocation.specs.Allocations.{line_at, rows_in, moves_in, allocation_of}
use Rattle.allocation.specs.declared.heading.Heading.{Heading}
use Rattle.allocation.specs.declared.tables.Tables.{Tables}
use Rattle.allocation.specs.Rendering.{move_fields, main_fields, move_rows, line_rows, lines_rows, heading_fields, render}

written-append : (a b : List (List (List ℕ))) → written (a ++ b) ≡ written a ++ written b
unfolding written
written-append [] b = refl
written-append (fs ∷ a) b = ap (λ t. ended fs ++ t) (written-append a b) ∙ sym (append_assoc (ended fs) (written a) (written b))

written-cons : (fs : List (List ℕ)) (b : List (List (List ℕ))) → written (fs ∷ b) ≡ ended fs ++ written b
unfolding written
written-cons fs b = refl

pub moves_join : (r : ℕ) (e : Edge) → Joins (λ ms. written (move_rows r e ms)) (λ m. ended (move_fields r e m))
unfolding written
moves_join r e = record { none = refl; more = λ m ms. refl }

pub rows_join : (r : ℕ) (moves : List Move) → Joins (λ rows. written (lines_rows r (map (line_at moves) rows))) (λ row. written (line_rows r (line_at moves row)))
unfolding written
rows_join r moves = record { none = refl; more = λ row rows. written-append (line_rows r (line_at moves row)) (lines_rows r (map (line_at moves) rows)) }

-- the lines of a node, by tables' heading and moves
module _ (t : Tables) (h : Heading) (moves : List Move) (hs : h ≡ t.heading) (ms : moves ≡ moves_in t) where
  pub line_is : (row : Row) → let l = line_at moves row in written (line_rows t.heading.registers (line_at (moves_in t) row)) ≡ written (move_rows h.registers In l.ins) ++ (ended (main_fields l.main) ++ (written (move_rows h.registers Out l.outs) ++ written (move_rows h.registers Alt l.alts)))
  line_is row =
      let r = h.registers in
      let l = line_at moves row in
      sym (λ j. written (line_rows (hs j).registers (line_at (ms j) row)))
      ∙ written-append (move_rows r In l.ins) _
      ∙ ap (λ b. written (move_rows r In l.ins) ++ b) (written-cons (main_fields l.main) _ ∙ ap (λ b. ended (main_fields l.main) ++ b) (written-append (move_rows r Out l.outs) (move_rows r Alt l.alts)))

  -- the text of tables
  pub text_is : (n : ℕ) (rows : List Row) → n ≡ t.entry → rows ≡ rows_in t → render (allocation_of t) ≡ ended (heading_fields h.registers h.slots (length rows)) ++ (written (move_rows h.registers Entry (take n moves)) ++ written (lines_rows t.heading.registers (map (line_at (moves_in t)) rows)))
  unfolding render
  text_is n rows ns rs =
      let r = h.registers in
      let entry = move_rows r Entry (take n moves) in
      let lines = λ (r : ℕ) (ms : List Move). lines_rows r (map (line_at ms) rows) in
      sym (λ j. written (heading_fields (hs j).registers (hs j).slots (length (map (line_at (ms j)) (rs j))) ∷ (move_rows (hs j).registers Entry (take (ns j) (ms j)) ++ lines_rows (hs j).registers (map (line_at (ms j)) (rs j)))))
      ∙ ap (λ k. written (heading_fields r h.slots k ∷ (entry ++ lines r moves))) (length-map rows (line_at moves))
      ∙ written-cons (heading_fields r h.slots (length rows)) _
      ∙ ap (λ b. ended (heading_fields r h.slots (length rows)) ++ b) (written-append entry (lines r moves))
      ∙ (λ j. ended (heading_fields r h.slots (length rows)) ++ (written entry ++ written (lines (hs j).registers (ms j))))

-- the checker's defaults
abbrev pub no_move : Move
no_move = record { to = 0; from = 0 }

abbrev pub no_row : Row
no_row = record { main = Skip; ins = 0; outs = 0; alts = 0; end = 0 }
