-- What a reader has read, by its parts.
use Rattle.std.proofs.Common.{◌≡◌, ℕ, suc, ◌-◌, ◌≤◌, true, leb, List, [], ◌∷◌, ◌++◌, map, length, take, drop, refl, ap, ◌∙◌, arith}
use Rattle.std.specs.List.{between}
use Rattle.std.proofs.lemmas.List.{take_all, drop_all, take_rest, map_push, length_push, length-drop, length-map, take-append-le, drop-append-le}
use Rattle.std.proofs.lemmas.Bool.{and_parts, and_from, leb-true, le-leb}
use Rattle.allocation.specs.declared.heading.Heading.{Heading}
use Rattle.allocation.specs.declared.line.Move.{Move}
use Rattle.allocation.specs.declared.line.Main.{Main}
use Rattle.allocation.specs.declared.line.Main.TheVariants as main
use Rattle.allocation.specs.declared.line.Row.{Row}
use Rattle.reading.specs.declared.stage.Stage.{Stage}
use Rattle.reading.specs.declared.stage.Stage.TheVariants.{Start, Before, Plain, Branch, Alternate, Return}
use Rattle.reading.specs.declared.reader.Reader.{Reader}
use Rattle.allocation.specs.Ranges.{main_line_fits, row_fits, RowsFit}
use Rattle.reading.specs.Stages.{held, main_stage}
use Rattle.allocation.proofs.LineCounts.{Ordered}
use Rattle.allocation.specs.Allocations.{Line, line_at, rows_in, moves_in, allocation_of}
use Rattle.reading.specs.Reading.{State, begun, opened, turned, with_move, with_main, entry_with, line_with, whole}
use Rattle.reading.specs.States.{entry_so_far, line_so_far, entry_in, done_in, line_in, state}

-- the parts of a reader
pub record Parts : Type 0 where
  pub heading : Heading
  pub stage : Stage
  pub entry : ℕ
  pub moves : List Move
  pub rows : List Row
  pub row : Row

abbrev pub parts_of : Reader → Parts
parts_of r = record { heading = r.tables.heading; stage = r.stage; entry = r.tables.entry; moves = moves_in r.tables; rows = rows_in r.tables; row = r.row }

abbrev pub view : Parts → State
view p = record {
  heading = p.heading;
  stage = p.stage;
  entry = entry_so_far p.stage p.entry p.moves;
  done = map (line_at p.moves) p.rows;
  line = line_so_far p.stage p.row p.moves;
  moves = length p.moves;
}

pub state_is : (r : Reader) → state r ≡ view (parts_of r)
unfolding entry_in done_in line_in
state_is r = refl

-- the parts of a reader at a stage
abbrev pub at_stage : Stage → Reader → Parts
at_stage g r = record { heading = r.tables.heading; stage = g; entry = r.tables.entry; moves = moves_in r.tables; rows = rows_in r.tables; row = r.row }

pub staged : (r : Reader) (g : Stage) → r.stage ≡ g → state r ≡ view (at_stage g r)
staged r g e = state_is r ∙ ap (λ s. view (at_stage s r)) e

-- lists

module _ {X : Type 0} (xs : List X) where
  pub drop_end : drop (length xs) xs ≡ []
  drop_end = drop_all (length xs) xs (omega arith)

  pub take_end : take (length xs) xs ≡ xs
  take_end = take_all (length xs) xs (omega arith)

  pub between_end : (i : ℕ) → between i (length xs) xs ≡ drop i xs
  between_end i = take_rest xs i

  pub between_none : (i : ℕ) → between i i xs ≡ []
  between_none i = let e : i - i ≡ 0 = omega arith in ap (λ k. take k (drop i xs)) e

  module _ (x : X) where
    pub drop-push : (i : ℕ) → i ≤ length xs → drop i (xs ++ x ∷ []) ≡ drop i xs ++ x ∷ []
    drop-push i h = drop-append-le i xs (x ∷ []) h

    pub take-push : (i : ℕ) → i ≤ length xs → take i (xs ++ x ∷ []) ≡ take i xs
    take-push i h = take-append-le i xs (x ∷ []) h

    pub between_push : (i j : ℕ) → i ≤ j → j ≤ length xs → between i j (xs ++ x ∷ []) ≡ between i j xs
    between_push i j h k = ap (take (j - i)) (drop-push i (omega arith)) ∙ take-append-le (j - i) (drop i xs) (x ∷ []) (simp length-drop (omega arith))

-- one node ends, the next begins

module _ (h : Heading) (e : ℕ) (ms : List Move) (rows : List Row) where
  pub opened_start : (row row' : Row) → row'.ins ≡ length ms
      → view (record { heading = h; stage = Before; entry = length ms; moves = ms; rows = rows; row = row' })
      ≡ opened (view (record { heading = h; stage = Start; entry = e; moves = ms; rows = rows; row = row }))
  opened_start row row' last =
      λ j. record { heading = h; stage = Before; entry = take_end ms j; done = map (line_at ms) rows; line = begun ((ap (λ i. drop i ms) last ∙ drop_end ms) j); moves = length ms }

  pub opened-held : (g : Stage) (row row' done : Row) → held g ≡ 1 → row'.ins ≡ length ms → line_at ms done ≡ line_so_far g row ms
      → view (record { heading = h; stage = Before; entry = e; moves = ms; rows = rows ++ done ∷ []; row = row' })
      ≡ opened (view (record { heading = h; stage = g; entry = e; moves = ms; rows = rows; row = row }))
  opened-held Start row row' done k last is = absurd (omega arith)
  opened-held Before row row' done k last is = absurd (omega arith)
  opened-held Plain row row' done k last is =
      λ j. record { heading = h; stage = Before; entry = take e ms; done = (map_push (line_at ms) rows done ∙ ap (λ l. map (line_at ms) rows ++ l ∷ []) is) j; line = begun ((ap (λ i. drop i ms) last ∙ drop_end ms) j); moves = length ms }
  opened-held Branch row row' done k last is =
      λ j. record { heading = h; stage = Before; entry = take e ms; done = (map_push (line_at ms) rows done ∙ ap (λ l. map (line_at ms) rows ++ l ∷ []) is) j; line = begun ((ap (λ i. drop i ms) last ∙ drop_end ms) j); moves = length ms }
  opened-held Alternate row row' done k last is =
      λ j. record { heading = h; stage = Before; entry = take e ms; done = (map_push (line_at ms) rows done ∙ ap (λ l. map (line_at ms) rows ++ l ∷ []) is) j; line = begun ((ap (λ i. drop i ms) last ∙ drop_end ms) j); moves = length ms }
  opened-held Return row row' done k last is =
      λ j. record { heading = h; stage = Before; entry = take e ms; done = (map_push (line_at ms) rows done ∙ ap (λ l. map (line_at ms) rows ++ l ∷ []) is) j; line = begun ((ap (λ i. drop i ms) last ∙ drop_end ms) j); moves = length ms }

  pub turned_branch : (row : Row)
      → view (record { heading = h; stage = Alternate; entry = e; moves = ms; rows = rows; row = record { main = row.main; ins = row.ins; outs = row.outs; alts = length ms; end = length ms } })
      ≡ turned (view (record { heading = h; stage = Branch; entry = e; moves = ms; rows = rows; row = row }))
  turned_branch row =
      λ j. record { heading = h; stage = Alternate; entry = take e ms; done = map (line_at ms) rows; line = record { ins = between row.ins row.outs ms; main = row.main; outs = between_end ms row.outs j; alts = drop_end ms j }; moves = length ms }

  main_line_lem : (m : Main) (i : ℕ) → ◌≡◌ {A = Line} (record { ins = between i (length ms) ms; main = m; outs = drop (length ms) ms; alts = [] }) (record { ins = drop i ms; main = m; outs = []; alts = [] })
  main_line_lem m i = λ j. record { ins = between_end ms i j; main = m; outs = drop_end ms j; alts = [] }

  pub with_main_is : (m : Main) (row : Row)
      → view (record { heading = h; stage = main_stage m; entry = e; moves = ms; rows = rows; row = record { main = m; ins = row.ins; outs = length ms; alts = length ms; end = length ms } })
      ≡ with_main (view (record { heading = h; stage = Before; entry = e; moves = ms; rows = rows; row = row })) m
  with_main_is main.Skip row = λ j. record { heading = h; stage = Plain; entry = take e ms; done = map (line_at ms) rows; line = main_line_lem main.Skip row.ins j; moves = length ms }
  with_main_is (main.Const l k) row = λ j. record { heading = h; stage = Plain; entry = take e ms; done = map (line_at ms) rows; line = main_line_lem (main.Const l k) row.ins j; moves = length ms }
  with_main_is (main.Binary p l x y) row = λ j. record { heading = h; stage = Plain; entry = take e ms; done = map (line_at ms) rows; line = main_line_lem (main.Binary p l x y) row.ins j; moves = length ms }
  with_main_is (main.Call l k x y) row = λ j. record { heading = h; stage = Plain; entry = take e ms; done = map (line_at ms) rows; line = main_line_lem (main.Call l k x y) row.ins j; moves = length ms }
  with_main_is (main.Branch c x y) row = λ j. record { heading = h; stage = Branch; entry = take e ms; done = map (line_at ms) rows; line = main_line_lem (main.Branch c x y) row.ins j; moves = length ms }
  with_main_is (main.Return x) row = λ j. record { heading = h; stage = Return; entry = take e ms; done = map (line_at ms) rows; line = main_line_lem (main.Return x) row.ins j; moves = length ms }

-- the row of a node

module _ (ms : List Move) (row : Row) where
  pub row_line : (g : Stage) → held g ≡ 1 → (g ≡ Alternate → ⊥) → line_at ms (record { main = row.main; ins = row.ins; outs = row.outs; alts = length ms; end = length ms }) ≡ line_so_far g row ms
  row_line Start k ne = absurd (omega arith)
  row_line Before k ne = absurd (omega arith)
  row_line Plain k ne = λ j. record { ins = between row.ins row.outs ms; main = row.main; outs = between_end ms row.outs j; alts = between_none ms (length ms) j }
  row_line Branch k ne = λ j. record { ins = between row.ins row.outs ms; main = row.main; outs = between_end ms row.outs j; alts = between_none ms (length ms) j }
  row_line Alternate k ne = absurd (ne refl)
  row_line Return k ne = λ j. record { ins = between row.ins row.outs ms; main = row.main; outs = between_end ms row.outs j; alts = between_none ms (length ms) j }

  pub row_line_alternate : line_at ms (record { main = row.main; ins = row.ins; outs = row.outs; alts = row.alts; end = length ms }) ≡ line_so_far Alternate row ms
  row_line_alternate = λ j. record { ins = between row.ins row.outs ms; main = row.main; outs = between row.outs row.alts ms; alts = between_end ms row.alts j }

-- a row of these numbers fits
pub row_fits_from : (r len : ℕ) (m : Main) (i o a end : ℕ) → main_line_fits r m ≡ true → i ≤ o → o ≤ a → a ≤ end → end ≤ len → row_fits r len (record { main = m; ins = i; outs = o; alts = a; end = end }) ≡ true
row_fits_from r len m i o a end f p q s t = and_from _ _ f (and_from _ _ (le-leb i o p) (and_from _ _ (le-leb o a q) (and_from _ _ (le-leb a end s) (le-leb end len t))))

-- the main line of a row that fits
pub main_of : (r len : ℕ) (row : Row) → row_fits r len row ≡ true → main_line_fits r row.main ≡ true
main_of r len row h = (and_parts (main_line_fits r row.main) _ h).0

-- one more move

module _ (r : ℕ) (ms : List Move) (x : Move) where
  row_push : (row : Row) → row_fits r (length ms) row ≡ true → line_at (ms ++ x ∷ []) row ≡ line_at ms row
  row_push row h =
      let a = and_parts (main_line_fits r row.main) _ h in
      let b = and_parts (leb row.ins row.outs) _ a.1 in
      let c = and_parts (leb row.outs row.alts) _ b.1 in
      let d = and_parts (leb row.alts row.end) _ c.1 in
      let b' = leb-true _ _ b.0 in
      let c' = leb-true _ _ c.0 in
      let d' = leb-true _ _ d.0 in
      let e' = leb-true _ _ d.1 in
      λ j. record {
        ins = between_push ms x row.ins row.outs (omega arith) (omega arith) j;
        main = row.main;
        outs = between_push ms x row.outs row.alts (omega arith) (omega arith) j;
        alts = between_push ms x row.alts row.end (omega arith) (omega arith) j;
      }

  rows-push : (rows : List Row) → RowsFit r (length ms) rows → map (line_at (ms ++ x ∷ [])) rows ≡ map (line_at ms) rows
  rows-push [] h = refl
  rows-push (row ∷ rows) h = λ j. row_push row (h 0 (omega arith)) j ∷ rows-push rows (λ n k. h (suc n) (omega arith)) j

  pub with_move_is : (p : Parts) → p.moves ≡ ms → p.entry ≤ length ms → Ordered (length ms) p.row → RowsFit r (length ms) p.rows
      → view (record { heading = p.heading; stage = p.stage; entry = p.entry; moves = ms ++ x ∷ []; rows = p.rows; row = p.row })
      ≡ with_move (view (record { heading = p.heading; stage = p.stage; entry = p.entry; moves = ms; rows = p.rows; row = p.row })) x
  with_move_is p same e order fit =
      λ j. record { heading = p.heading; stage = p.stage; entry = entry_push p.stage j; done = rows-push p.rows fit j; line = line-push p.stage j; moves = length_push ms x j }
    where
      entry_push : (g : Stage) → entry_so_far g p.entry (ms ++ x ∷ []) ≡ entry_with g (entry_so_far g p.entry ms) x
      entry_push Start = refl
      entry_push Before = take-push ms x p.entry e
      entry_push Plain = take-push ms x p.entry e
      entry_push Branch = take-push ms x p.entry e
      entry_push Alternate = take-push ms x p.entry e
      entry_push Return = take-push ms x p.entry e

      out_push : ◌≡◌ {A = Line} (record { ins = between p.row.ins p.row.outs (ms ++ x ∷ []); main = p.row.main; outs = drop p.row.outs (ms ++ x ∷ []); alts = [] }) (record { ins = between p.row.ins p.row.outs ms; main = p.row.main; outs = drop p.row.outs ms ++ x ∷ []; alts = [] })
      out_push = λ j. record { ins = between_push ms x p.row.ins p.row.outs order.ins (omega (arith, order.outs, order.alts, order.end)) j; main = p.row.main; outs = drop-push ms x p.row.outs (omega (arith, order.outs, order.alts, order.end)) j; alts = [] }

      line-push : (g : Stage) → line_so_far g p.row (ms ++ x ∷ []) ≡ line_with g (line_so_far g p.row ms) x
      line-push Start = refl
      line-push Before = ap begun (drop-push ms x p.row.ins (omega (arith, order.ins, order.outs, order.alts, order.end)))
      line-push Plain = out_push
      line-push Branch = out_push
      line-push Alternate = λ j. record {
        ins = between_push ms x p.row.ins p.row.outs order.ins (omega (arith, order.outs, order.alts, order.end)) j;
        main = p.row.main;
        outs = between_push ms x p.row.outs p.row.alts order.outs (omega (arith, order.alts, order.end)) j;
        alts = drop-push ms x p.row.alts (omega (arith, order.alts, order.end)) j;
      }
      line-push Return = out_push

pub line_is : (r : Reader) (row : Row) → line_at (moves_in r.tables) row ≡ line_in r → line_at (moves_in r.tables) row ≡ line_so_far r.stage r.row (moves_in r.tables)
unfolding line_in
line_is r row e = e

pub done_long : (r : Reader) → length (done_in r) ≡ length (rows_in r.tables)
unfolding done_in
done_long r = length-map (rows_in r.tables) (line_at (moves_in r.tables))

-- between two nodes, a reader's tables hold what it has read
pub whole_is : (r : Reader) → r.stage ≡ Before → whole (state r) ≡ allocation_of r.tables
unfolding entry_in done_in
whole_is r e = λ j. record { registers = r.tables.heading.registers; slots = r.tables.heading.slots; entry = entry_so_far (e j) r.tables.entry (moves_in r.tables); lines = map (line_at (moves_in r.tables)) (rows_in r.tables) }
