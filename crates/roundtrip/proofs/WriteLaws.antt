-- What is written of a well-formed allocation is read as that allocation.
use Rattle.std.proofs.Common.{◌≡◌, ℕ, ◌+◌, ◌<◌, ◌≤◌, true, cond, eqb, List, [], ◌∷◌, ◌++◌, length, Ok, Err, sym, refl, ap, ◌∙◌, subst, arith}
use Rattle.std.proofs.lemmas.List.{append_assoc, append-nil, length_push}
use Rattle.std.proofs.lemmas.Bool.{cond-true, lt-ltb, eq-eqb}
use Rattle.std.specs.List.{AllByRecursion}
use Rattle.text.proofs.TextLaws.{Plain, AllPlain, cut_written, sized-written}
use Rattle.refusal.specs.declared.Refusal.TheVariants.{MissingNodes}
use Rattle.allocation.specs.declared.heading.Heading.{Heading}
use Rattle.allocation.specs.declared.line.Move.{Move}
use Rattle.allocation.specs.declared.line.Main.{Main}
use Rattle.allocation.specs.declared.line.Main.TheVariants as main
use Rattle.allocation.specs.declared.words.Edge.{Edge}
use Rattle.allocation.specs.declared.words.Edge.TheVariants.{Entry, In, Out, Alt}
use Rattle.allocation.specs.declared.item.Item.{Item}
use Rattle.allocation.specs.declared.item.Item.TheVariants as item
use Rattle.reading.specs.declared.stage.Stage.{Stage}
use Rattle.reading.specs.declared.stage.Stage.TheVariants.{Start, Before, Plain as AfterPlain, Branch, Alternate, Return}
use Rattle.allocation.specs.Ranges.{move_fits, main_line_fits, item_fits}
use Rattle.allocation.specs.Items.{item_of}
use Rattle.reading.specs.Stages.{held, main_stage}
use Rattle.allocation.specs.Allocations.{Line, Allocation}
use Rattle.allocation.specs.Rendering.{move_fields, main_fields, item_fields, move_rows, line_rows, lines_rows, heading_fields, rows_of, render}
use Rattle.reading.specs.Reading.{State, fresh, begun, opened, entry_with, line_with, with_move, with_main, and_go, stand, with_room, take_item, take_line, one_line, whole, run, started, headed, read_allocation}
use Rattle.allocation.specs.Lines.{line_moves, lines_moves}
use Rattle.allocation.specs.WellFormed.{MovesIn, Shaped, LineIn}
use Rattle.roundtrip.proofs.Sizes.{text_short}
use Rattle.roundtrip.specs.Laws.{ReadBack}
use Rattle.allocation.proofs.ItemLaws.{item_written, item_plain}
use Rattle.allocation.proofs.HeadingLaws.{HeadIn, heading_written, heading_plain}

module _ (n : ℕ) (h : Heading) (few : h.registers + h.slots ≤ 64) (a : Allocation) where
  abbrev r : ℕ
  r = h.registers

  -- the lines that are left lead to the allocation, whatever their numbers are
  Reads : State → List (List (List ℕ)) → Type 0
  Reads st rows = (k : ℕ) → run n rows st k ≡ Ok a

  -- one line
  item_reads : (st t : State) (i : Item) (rows : List (List (List ℕ))) → st.heading ≡ h → item_fits h i ≡ true → ((k : ℕ) → take_item n k st i ≡ Ok t) → Reads t rows → Reads st (item_fields r i ∷ rows)
  unfolding run one_line Reads
  item_reads st t i rows same ok steps rest k =
      ap (λ g. and_go (take_line n k st (item_of g (item_fields r i))) (λ u. run n rows u (k + 1))) same
      ∙ ap (λ x. and_go (take_line n k st x) (λ u. run n rows u (k + 1))) (item_written h few i ok)
      ∙ ap (λ x. and_go x (λ u. run n rows u (k + 1))) (steps k) ∙ rest (k + 1)

  -- a line that goes on with a node, or begins one, is read alike when the node is begun
  move_opens : (st : State) (m : Move) (rows : List (List (List ℕ))) → st.heading ≡ h → move_fits r h.slots m ≡ true → Reads (opened st) (move_fields r In m ∷ rows) → Reads st (move_fields r In m ∷ rows)
  unfolding run one_line Reads
  move_opens st m rows same ok rest k =
      ap (λ g. and_go (take_line n k st (item_of g (item_fields r (item.Move In m)))) (λ u. run n rows u (k + 1))) same
      ∙ ap (λ x. and_go (take_line n k st x) (λ u. run n rows u (k + 1))) (item_written h few (item.Move In m) ok)
      ∙ sym (ap (λ g. and_go (take_line n k (opened st) (item_of g (item_fields r (item.Move In m)))) (λ u. run n rows u (k + 1))) same
      ∙ ap (λ x. and_go (take_line n k (opened st) x) (λ u. run n rows u (k + 1))) (item_written h few (item.Move In m) ok))
      ∙ rest k

  main_opens : (st : State) (m : Main) (rows : List (List (List ℕ))) → st.heading ≡ h → main_line_fits r m ≡ true → Reads (opened st) (main_fields m ∷ rows) → Reads st (main_fields m ∷ rows)
  unfolding run one_line Reads
  main_opens st m rows same ok rest k =
      ap (λ g. and_go (take_line n k st (item_of g (item_fields r (item.Main m)))) (λ u. run n rows u (k + 1))) same
      ∙ ap (λ x. and_go (take_line n k st x) (λ u. run n rows u (k + 1))) (item_written h few (item.Main m) ok)
      ∙ sym (ap (λ g. and_go (take_line n k (opened st) (item_of g (item_fields r (item.Main m)))) (λ u. run n rows u (k + 1))) same
      ∙ ap (λ x. and_go (take_line n k (opened st) x) (λ u. run n rows u (k + 1))) (item_written h few (item.Main m) ok))
      ∙ rest k

  abbrev at : Stage → List Move → List Line → Line → ℕ → State
  at g entry done l moves = record { heading = h; stage = g; entry = entry; done = done; line = l; moves = moves }

  -- moves, one after another, at a stage where they may stand
  abbrev entry_many : Stage → List Move → List Move → List Move
  entry_many Start entry ms = entry ++ ms
  entry_many Before entry ms = entry
  entry_many AfterPlain entry ms = entry
  entry_many Branch entry ms = entry
  entry_many Alternate entry ms = entry
  entry_many Return entry ms = entry

  abbrev out_many : Line → List Move → Line
  out_many l ms = record { ins = l.ins; main = l.main; outs = l.outs ++ ms; alts = l.alts }

  abbrev line_many : Stage → Line → List Move → Line
  line_many Start l ms = l
  line_many Before l ms = record { ins = l.ins ++ ms; main = l.main; outs = l.outs; alts = l.alts }
  line_many AfterPlain l ms = out_many l ms
  line_many Branch l ms = out_many l ms
  line_many Alternate l ms = record { ins = l.ins; main = l.main; outs = l.outs; alts = l.alts ++ ms }
  line_many Return l ms = out_many l ms

  entry_none : (g : Stage) (entry : List Move) → entry_many g entry [] ≡ entry
  entry_none Start entry = append-nil entry
  entry_none Before entry = refl
  entry_none AfterPlain entry = refl
  entry_none Branch entry = refl
  entry_none Alternate entry = refl
  entry_none Return entry = refl

  line-none : (g : Stage) (l : Line) → line_many g l [] ≡ l
  line-none Start l = refl
  line-none Before l = λ j. record { ins = append-nil l.ins j; main = l.main; outs = l.outs; alts = l.alts }
  line-none AfterPlain l = λ j. record { ins = l.ins; main = l.main; outs = append-nil l.outs j; alts = l.alts }
  line-none Branch l = λ j. record { ins = l.ins; main = l.main; outs = append-nil l.outs j; alts = l.alts }
  line-none Alternate l = λ j. record { ins = l.ins; main = l.main; outs = l.outs; alts = append-nil l.alts j }
  line-none Return l = λ j. record { ins = l.ins; main = l.main; outs = append-nil l.outs j; alts = l.alts }

  entry_more : (g : Stage) (entry : List Move) (m : Move) (ms : List Move) → entry_many g (entry_with g entry m) ms ≡ entry_many g entry (m ∷ ms)
  entry_more Start entry m ms = append_assoc entry (m ∷ []) ms
  entry_more Before entry m ms = refl
  entry_more AfterPlain entry m ms = refl
  entry_more Branch entry m ms = refl
  entry_more Alternate entry m ms = refl
  entry_more Return entry m ms = refl

  line_more : (g : Stage) (l : Line) (m : Move) (ms : List Move) → line_many g (line_with g l m) ms ≡ line_many g l (m ∷ ms)
  line_more Start l m ms = refl
  line_more Before l m ms = λ j. record { ins = append_assoc l.ins (m ∷ []) ms j; main = l.main; outs = l.outs; alts = l.alts }
  line_more AfterPlain l m ms = λ j. record { ins = l.ins; main = l.main; outs = append_assoc l.outs (m ∷ []) ms j; alts = l.alts }
  line_more Branch l m ms = λ j. record { ins = l.ins; main = l.main; outs = append_assoc l.outs (m ∷ []) ms j; alts = l.alts }
  line_more Alternate l m ms = λ j. record { ins = l.ins; main = l.main; outs = l.outs; alts = append_assoc l.alts (m ∷ []) ms j }
  line_more Return l m ms = λ j. record { ins = l.ins; main = l.main; outs = append_assoc l.outs (m ∷ []) ms j; alts = l.alts }

  -- a move with word e stays at stage g, for lines that P holds of
  moves_read : (g : Stage) (e : Edge) (P : Line → Type 0) (done : List Line) → ((l : Line) (m : Move) → P l → P (line_with g l m)) → ((k : ℕ) (entry : List Move) (l : Line) (moves : ℕ) → P l → stand n k e (at g entry done l moves) ≡ Ok (at g entry done l moves))
      → (ms : List Move) → MovesIn r h.slots ms → (entry : List Move) (l : Line) (moves : ℕ) → P l → moves + length ms ≤ 1024 → (rows : List (List (List ℕ)))
      → Reads (at g (entry_many g entry ms) done (line_many g l ms) (moves + length ms)) rows → Reads (at g entry done l moves) (move_rows r e ms ++ rows)
  moves_read g e P done keeps stays [] ok entry l moves p room rows rest =
      let zero : moves + 0 ≡ moves = omega arith in
      subst (λ t. Reads t rows) (λ j. at g (entry_none g entry j) done (line-none g l j) (zero j)) rest
  moves_read g e P done keeps stays (m ∷ ms) ok entry l moves p room rows rest =
      let next : moves + 1 + length ms ≡ moves + length (m ∷ ms) = omega arith in
      item_reads (at g entry done l moves) (with_move (at g entry done l moves) m) (item.Move e m) (move_rows r e ms ++ rows) refl ok.0
      (λ k. ap (λ x. and_go x (with_room k m)) (stays k entry l moves p) ∙ cond-true _ _ _ (lt-ltb moves 1024 (omega arith)))
      (moves_read g e P done keeps stays ms ok.1 (entry_with g entry m) (line_with g l m) (moves + 1) (keeps l m p) (omega arith) rows
      (subst (λ t. Reads t rows) (sym (λ j. at g (entry_more g entry m ms j) done (line_more g l m ms j) (next j))) rest))

  -- the moves before a main line, and the main line
  module _ (entry : List Move) (done : List Line) (less : length done < n) where
    ins_read : (ins : List Move) → MovesIn r h.slots ins → (moves : ℕ) → moves + length ins ≤ 1024 → (rows : List (List (List ℕ))) → Reads (at Before entry done (begun ins) (moves + length ins)) rows → Reads (at Before entry done (begun []) moves) (move_rows r In ins ++ rows)
    ins_read ins ok moves room rows rest =
        moves_read Before In (λ l. l ≡ begun l.ins) done (λ l m p. ap (λ x. line_with Before x m) p)
        (λ k e l mv p. cond-true _ _ _ (lt-ltb (length done) n less) ∙ ap (λ x. Ok (at Before e done x mv)) (sym p))
        ins ok entry (begun []) moves refl room rows rest

    main_read : (ins : List Move) (m : Main) → main_line_fits r m ≡ true → (moves : ℕ) (rows : List (List (List ℕ))) → Reads (at (main_stage m) entry done (record { ins = ins; main = m; outs = []; alts = [] }) moves) rows → Reads (at Before entry done (begun ins) moves) (main_fields m ∷ rows)
    main_read ins m ok moves rows rest =
        item_reads (at Before entry done (begun ins) moves) _ (item.Main m) rows refl ok
        (λ k. ap (λ x. and_go x (λ t. Ok (with_main t m))) (cond-true _ _ _ (lt-ltb (length done) n less))) rest

    -- the moves after a main line
    module _ (ins : List Move) (m : Main) (rows : List (List (List ℕ))) where
      abbrev line : List Move → List Move → Line
      line outs alts = record { ins = ins; main = m; outs = outs; alts = alts }

      plain-after : (outs alts : List Move) → alts ≡ [] → MovesIn r h.slots outs → (moves total : ℕ) → total ≡ moves + length outs + length alts → total ≤ 1024 → Reads (at AfterPlain entry done (line outs alts) total) rows → Reads (at AfterPlain entry done (line [] []) moves) (move_rows r Out outs ++ (move_rows r Alt alts ++ rows))
      plain-after outs alts none ok moves total sum room rest =
          let same : total ≡ moves + length outs = omega (arith, ap length none) in
          moves_read AfterPlain Out (λ _. Unit {0}) done (λ _ _ _. tt) (λ _ _ _ _ _. refl) outs ok entry (line [] []) moves tt (omega arith) (move_rows r Alt alts ++ rows)
          (subst (λ x. Reads (at AfterPlain entry done (line outs []) (moves + length outs)) (move_rows r Alt x ++ rows)) (sym none)
          (subst (λ t. Reads t rows) (λ j. at AfterPlain entry done (line outs (none j)) (same j)) rest))

      branch_after : (outs alts : List Move) → MovesIn r h.slots outs → MovesIn r h.slots alts → (moves total : ℕ) → total ≡ moves + length outs + length alts → total ≤ 1024 → ((g : Stage) → held g ≡ 1 → Reads (at g entry done (line outs alts) total) rows) → Reads (at Branch entry done (line [] []) moves) (move_rows r Out outs ++ (move_rows r Alt alts ++ rows))
      branch_after outs alts ok also moves total sum room rest =
          moves_read Branch Out (λ _. Unit {0}) done (λ _ _ _. tt) (λ _ _ _ _ _. refl) outs ok entry (line [] []) moves tt (omega arith) (move_rows r Alt alts ++ rows) (turn alts also sum rest)
        where
          turn : (xs : List Move) → MovesIn r h.slots xs → total ≡ moves + length outs + length xs → ((g : Stage) → held g ≡ 1 → Reads (at g entry done (line outs xs) total) rows) → Reads (at Branch entry done (line outs []) (moves + length outs)) (move_rows r Alt xs ++ rows)
          turn [] also sum rest = let same : total ≡ moves + length outs = omega arith in subst (λ k. Reads (at Branch entry done (line outs []) k) rows) same (rest Branch refl)
          turn (x ∷ xs) also sum rest =
              let same : total ≡ moves + length outs + 1 + length xs = omega arith in
              item_reads (at Branch entry done (line outs []) (moves + length outs)) (at Alternate entry done (line outs (x ∷ [])) (moves + length outs + 1)) (item.Move Alt x) (move_rows r Alt xs ++ rows) refl also.0
              (λ k. cond-true _ _ _ (lt-ltb (moves + length outs) 1024 (omega arith)))
              (moves_read Alternate Alt (λ _. Unit {0}) done (λ _ _ _. tt) (λ _ _ _ _ _. refl) xs also.1 entry (line outs (x ∷ [])) (moves + length outs + 1) tt (omega arith) rows
              (subst (λ k. Reads (at Alternate entry done (line outs (x ∷ xs)) k) rows) same (rest Alternate refl)))

      return_after : (outs alts : List Move) → outs ≡ [] → alts ≡ [] → (moves total : ℕ) → total ≡ moves + length outs + length alts → Reads (at Return entry done (line outs alts) total) rows → Reads (at Return entry done (line [] []) moves) (move_rows r Out outs ++ (move_rows r Alt alts ++ rows))
      return_after outs alts empty none moves total sum rest =
          let same : total ≡ moves = omega (arith, ap length empty, ap length none) in
          subst (λ x. Reads (at Return entry done (line [] []) moves) (move_rows r Out x ++ (move_rows r Alt alts ++ rows))) (sym empty)
          (subst (λ x. Reads (at Return entry done (line [] []) moves) (move_rows r Alt x ++ rows)) (sym none)
          (subst (λ t. Reads t rows) (λ j. at Return entry done (line (empty j) (none j)) (same j)) rest))

    after_main : (ins : List Move) (m : Main) (rows : List (List (List ℕ))) (outs alts : List Move) → Shaped m outs alts → MovesIn r h.slots outs → MovesIn r h.slots alts → (moves total : ℕ) → total ≡ moves + length outs + length alts → total ≤ 1024
        → ((g : Stage) → held g ≡ 1 → Reads (at g entry done (record { ins = ins; main = m; outs = outs; alts = alts }) total) rows)
        → Reads (at (main_stage m) entry done (record { ins = ins; main = m; outs = []; alts = [] }) moves) (move_rows r Out outs ++ (move_rows r Alt alts ++ rows))
    after_main ins main.Skip rows outs alts s ok also moves total sum room rest = plain-after ins main.Skip rows outs alts s ok moves total sum room (rest AfterPlain refl)
    after_main ins (main.Const l v) rows outs alts s ok also moves total sum room rest = plain-after ins (main.Const l v) rows outs alts s ok moves total sum room (rest AfterPlain refl)
    after_main ins (main.Binary o l x y) rows outs alts s ok also moves total sum room rest = plain-after ins (main.Binary o l x y) rows outs alts s ok moves total sum room (rest AfterPlain refl)
    after_main ins (main.Call l g x y) rows outs alts s ok also moves total sum room rest = plain-after ins (main.Call l g x y) rows outs alts s ok moves total sum room (rest AfterPlain refl)
    after_main ins (main.Branch c x y) rows outs alts s ok also moves total sum room rest = branch_after ins (main.Branch c x y) rows outs alts ok also moves total sum room rest
    after_main ins (main.Return x) rows outs alts s ok also moves total sum room rest = return_after ins (main.Return x) rows outs alts s.0 s.1 moves total sum (rest Return refl)

    -- the lines of a node
    line_read : (l : Line) → LineIn r h.slots l → (moves : ℕ) → moves + line_moves l ≤ 1024 → (rows : List (List (List ℕ))) → ((g : Stage) → held g ≡ 1 → Reads (at g entry done l (moves + line_moves l)) rows) → Reads (at Before entry done (begun []) moves) (line_rows r l ++ rows)
    line_read l i moves room rows rest =
        let apart : line_rows r l ++ rows ≡ move_rows r In l.ins ++ (main_fields l.main ∷ (move_rows r Out l.outs ++ (move_rows r Alt l.alts ++ rows))) =
        append_assoc (move_rows r In l.ins) _ rows ∙ ap (λ x. move_rows r In l.ins ++ (main_fields l.main ∷ x)) (append_assoc (move_rows r Out l.outs) (move_rows r Alt l.alts) rows) in
        subst (Reads (at Before entry done (begun []) moves)) (sym apart)
        (ins_read l.ins i.ins_in moves (omega arith) _
        (main_read l.ins l.main i.main_in (moves + length l.ins) _
        (after_main l.ins l.main rows l.outs l.alts i.shaped i.outs_in i.alts_in (moves + length l.ins) (moves + line_moves l) (omega arith) room rest)))

  -- the first line of a node begins it
  first_opens : (st : State) (l : Line) (rows : List (List (List ℕ))) → st.heading ≡ h → LineIn r h.slots l → Reads (opened st) (line_rows r l ++ rows) → Reads st (line_rows r l ++ rows)
  first_opens st l rows same i rest = go l.ins i.ins_in rest
    where
      tail : List (List (List ℕ))
      tail = move_rows r Out l.outs ++ move_rows r Alt l.alts

      go : (ins : List Move) → MovesIn r h.slots ins → Reads (opened st) ((move_rows r In ins ++ (main_fields l.main ∷ (move_rows r Out l.outs ++ move_rows r Alt l.alts))) ++ rows) → Reads st ((move_rows r In ins ++ (main_fields l.main ∷ (move_rows r Out l.outs ++ move_rows r Alt l.alts))) ++ rows)
      go [] ok rest = main_opens st l.main _ same i.main_in rest
      go (m ∷ ms) ok rest = move_opens st m _ same ok.0 rest

  held_opens : (g : Stage) → held g ≡ 1 → (entry : List Move) (done : List Line) (l : Line) (moves : ℕ) → opened (at g entry done l moves) ≡ at Before entry (done ++ l ∷ []) (begun []) moves
  held_opens Start k entry done l moves = absurd (omega arith)
  held_opens Before k entry done l moves = absurd (omega arith)
  held_opens AfterPlain k entry done l moves = refl
  held_opens Branch k entry done l moves = refl
  held_opens Alternate k entry done l moves = refl
  held_opens Return k entry done l moves = refl

  -- the lines of all nodes
  lines_read : (ls : List Line) → AllByRecursion (LineIn r h.slots) ls → (st : State) (entry : List Move) (done : List Line) (moves : ℕ) → opened st ≡ at Before entry done (begun []) moves → st.heading ≡ h → length done + length ls ≡ n → moves + lines_moves ls ≤ 1024 → record { registers = r; slots = h.slots; entry = entry; lines = done ++ ls } ≡ a → Reads st (lines_rows r ls)
  unfolding run Reads
  lines_read [] ok st entry done moves is same count room all = λ k.
      ap (λ t. cond (eqb (length t.done) n) (Ok (whole t)) (Err (MissingNodes k))) is
      ∙ cond-true _ _ _ (eq-eqb (length done) n (omega arith)) ∙ ap (λ d. Ok (record { registers = r; slots = h.slots; entry = entry; lines = d })) (sym (append-nil done)) ∙ ap Ok all
  lines_read (l ∷ ls) ok st entry done moves is same count room all =
      first_opens st l (lines_rows r ls) same ok.0
      (subst (λ t. Reads t (line_rows r l ++ lines_rows r ls)) (sym is)
      (line_read entry done (omega arith) l ok.0 moves (omega arith) (lines_rows r ls)
      (λ g k. lines_read ls ok.1 (at g entry done l (moves + line_moves l)) entry (done ++ l ∷ []) (moves + line_moves l) (held_opens g k entry done l (moves + line_moves l)) refl (omega (arith, length_push done l)) (omega arith)
      (ap (λ d. record { registers = r; slots = h.slots; entry = entry; lines = d }) (append_assoc done (l ∷ []) ls) ∙ all))))

  -- all lines after the heading
  pub all_read : (entry : List Move) (ls : List Line) → MovesIn r h.slots entry → AllByRecursion (LineIn r h.slots) ls → length ls ≡ n → length entry + lines_moves ls ≤ 1024 → record { registers = r; slots = h.slots; entry = entry; lines = ls } ≡ a → (k : ℕ) → run n (move_rows r Entry entry ++ lines_rows r ls) (fresh h) k ≡ Ok a
  unfolding Reads
  all_read entry ls ok also count room all =
      let zero : 0 + length entry ≡ length entry = omega arith in
      moves_read Start Entry (λ _. Unit {0}) [] (λ _ _ _. tt) (λ _ _ _ _ _. refl) entry ok [] (begun []) 0 tt (omega arith) (lines_rows r ls)
      (lines_read ls also (at Start entry [] (begun []) (0 + length entry)) entry [] (0 + length entry) refl refl (omega arith) (omega arith) all)

-- no line has a separator in a field

plain-append : (xs ys : List (List (List ℕ))) → AllPlain xs → AllPlain ys → AllPlain (xs ++ ys)
plain-append [] ys p q = q
plain-append (x ∷ xs) ys p q = (p.0, plain-append xs ys p.1 q)

module _ (h : Heading) (few : h.registers + h.slots ≤ 64) where
  moves_plain : (e : Edge) (ms : List Move) → MovesIn h.registers h.slots ms → AllPlain (move_rows h.registers e ms)
  moves_plain e [] ok = tt
  moves_plain e (m ∷ ms) ok = (item_plain h few (item.Move e m) ok.0, moves_plain e ms ok.1)

  lines_plain : (ls : List Line) → AllByRecursion (LineIn h.registers h.slots) ls → AllPlain (lines_rows h.registers ls)
  lines_plain [] ok = tt
  lines_plain (l ∷ ls) ok =
      plain-append (line_rows h.registers l) (lines_rows h.registers ls)
      (plain-append (move_rows h.registers In l.ins) _ (moves_plain In l.ins ok.0.ins_in)
      (item_plain h few (item.Main l.main) ok.0.main_in, plain-append (move_rows h.registers Out l.outs) _ (moves_plain Out l.outs ok.0.outs_in) (moves_plain Alt l.alts ok.0.alts_in)))
      (lines_plain ls ok.1)

pub reads_back : ReadBack
unfolding read_allocation render
reads_back p n a w =
    let h : Heading = record { registers = a.registers; slots = a.slots } in
    let few : a.registers + a.slots ≤ 64 = omega (arith, w.registers_high, w.slots_high) in
    let k : HeadIn p n h = record { registers_low = w.registers_low; registers_high = w.registers_high; slots_low = w.slots_low; slots_high = w.slots_high; few_nodes = w.few_nodes } in
    let plain : AllPlain (rows_of a) = (
      subst (λ m. Plain (heading_fields a.registers a.slots m)) (sym w.nodes) (heading_plain p n h k),
      plain-append (move_rows a.registers Entry a.entry) (lines_rows a.registers a.lines) (moves_plain h few Entry a.entry w.entry_in) (lines_plain h few a.lines w.lines_in),
    ) in
    cond-true _ _ _ (sized-written (rows_of a) plain (omega arith) (text_short p n a w)) ∙ ap (headed p n) (cut_written (rows_of a) plain)
    ∙ ap (λ m. headed p n (heading_fields a.registers a.slots m ∷ (move_rows a.registers Entry a.entry ++ lines_rows a.registers a.lines))) w.nodes
    ∙ ap (started n (move_rows a.registers Entry a.entry ++ lines_rows a.registers a.lines)) (heading_written p n h k)
    ∙ all_read n h few a a.entry a.lines w.entry_in w.lines_in w.nodes w.few_moves refl 2
