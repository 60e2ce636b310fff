-- What is read, written, is the text that it was read from.
use Rattle.std.proofs.Common.{◌≡◌, ℕ, ◌+◌, ◌<◌, ◌≤◌, Bool, true, false, cond, eqb, ltb, List, [], ◌∷◌, ◌++◌, map, length, Some, None, Ok, Err, Option, Result, sym, refl, ap, ◌∙◌, subst, arith}
use Rattle.std.proofs.lemmas.List.{append_assoc, append-nil, map_push, length_push}
use Rattle.std.proofs.ByRecursion.{All-push}
use Rattle.std.proofs.lemmas.Bool.{ltb-true, eqb-true}
use Rattle.std.specs.List.{AllByRecursion}
use Rattle.text.specs.Parts.{lines_of, fields_of, sized, written}
use Rattle.text.specs.Fields.{shape_of}
use Rattle.text.specs.declared.fields.Fault.{Fault}
use Rattle.text.proofs.TextLaws.{written_cut}
use Rattle.refusal.specs.declared.Refusal.{Refusal}
use Rattle.refusal.specs.declared.Refusal.TheVariants.{AllocationSize, OutOfOrder, TooManyMoves, MissingNodes}
use Rattle.allocation.specs.declared.heading.Heading.{Heading}
use Rattle.allocation.specs.declared.line.Move.{Move}
use Rattle.allocation.specs.declared.line.Main.{Main}
use Rattle.allocation.specs.declared.line.Main.TheVariants as main
use Rattle.allocation.specs.declared.words.Edge.{Edge}
use Rattle.allocation.specs.declared.words.Edge.TheVariants.{Entry, In, Out, Alt}
use Rattle.allocation.specs.declared.item.Item.{Item}
use Rattle.allocation.specs.declared.item.Item.TheVariants as item
use Rattle.reading.specs.declared.stage.Stage.{Stage}
use Rattle.reading.specs.declared.stage.Stage.TheVariants.{Start, Before, Plain, Branch, Alternate, Return}
use Rattle.allocation.specs.Headings.{heading_of}
use Rattle.allocation.specs.Ranges.{move_fits, main_line_fits, item_fits}
use Rattle.allocation.specs.Items.{item_of}
use Rattle.reading.specs.Stages.{main_stage}
use Rattle.allocation.specs.Allocations.{Line, Allocation}
use Rattle.allocation.specs.Rendering.{move_fields, main_fields, item_fields, move_rows, line_rows, lines_rows, heading_fields, rows_of, render}
use Rattle.reading.specs.Reading.{State, fresh, begun, closed, pending, opened, with_in, with_out, with_alt, with_move, with_main, and_go, next_node, stand, with_room, take_item, take_line, one_line, whole, finish, run, started, headed, read_allocation}
use Rattle.allocation.specs.Lines.{line_moves, lines_moves, move_count}
use Rattle.allocation.specs.WellFormed.{MovesIn, Shaped, LineIn, WellFormed}
use Rattle.reading.specs.Laws.{WrittenBack, ReadsWell}
use Rattle.allocation.proofs.ItemLaws.{item_read, Says}
use Rattle.allocation.proofs.HeadingLaws.{heading_read}

-- what is true of the line that is being read, at each stage
abbrev Fits : (r s n : ℕ) → Stage → List Line → Line → Type 0
Fits r s n Start done l = done ≡ []
Fits r s n Before done l = MovesIn r s l.ins × (length done < n)
Fits r s n Plain done l = LineIn r s l × (l.alts ≡ []) × (main_stage l.main ≡ Plain)
Fits r s n Branch done l = LineIn r s l × (l.alts ≡ []) × (main_stage l.main ≡ Branch)
Fits r s n Alternate done l = LineIn r s l × (main_stage l.main ≡ Branch)
Fits r s n Return done l = LineIn r s l

-- its lines so far, and how many of them are moves
abbrev open_rows : ℕ → Stage → Line → List (List (List ℕ))
open_rows r Start l = []
open_rows r Before l = move_rows r In l.ins
open_rows r Plain l = line_rows r l
open_rows r Branch l = line_rows r l
open_rows r Alternate l = line_rows r l
open_rows r Return l = line_rows r l

abbrev open_moves : Stage → Line → ℕ
open_moves Start l = 0
open_moves Before l = length l.ins
open_moves Plain l = line_moves l
open_moves Branch l = line_moves l
open_moves Alternate l = line_moves l
open_moves Return l = line_moves l

-- all lines so far
abbrev rows_so_far : State → List (List (List ℕ))
rows_so_far st = move_rows st.heading.registers Entry st.entry ++ (lines_rows st.heading.registers st.done ++ open_rows st.heading.registers st.stage st.line)

pub record Sound (n : ℕ) (st : State) : Type 0 where
  pub few : st.heading.registers + st.heading.slots ≤ 64
  pub entry_in : MovesIn st.heading.registers st.heading.slots st.entry
  pub done_in : AllByRecursion (LineIn st.heading.registers st.heading.slots) st.done
  pub count : st.moves ≡ length st.entry + lines_moves st.done + open_moves st.stage st.line
  pub few_moves : st.moves ≤ 1024
  pub fits : Fits st.heading.registers st.heading.slots n st.stage st.done st.line

-- one more line at the end

lines_rows-push : (r : ℕ) (ls : List Line) (l : Line) → lines_rows r (ls ++ l ∷ []) ≡ lines_rows r ls ++ line_rows r l
lines_rows-push r [] l = append-nil (line_rows r l)
lines_rows-push r (k ∷ ls) l = ap (λ t. line_rows r k ++ t) (lines_rows-push r ls l) ∙ sym (append_assoc (line_rows r k) (lines_rows r ls) (line_rows r l))

lines_moves-push : (ls : List Line) (l : Line) → lines_moves (ls ++ l ∷ []) ≡ lines_moves ls + line_moves l
lines_moves-push [] l = omega arith
lines_moves-push (k ∷ ls) l = omega (arith, lines_moves-push ls l)

rows-push : (r : ℕ) (e : Edge) (ms : List Move) (m : Move) → move_rows r e (ms ++ m ∷ []) ≡ move_rows r e ms ++ move_fields r e m ∷ []
rows-push r e ms m = map_push (move_fields r e) ms m

module _ {A : Type 0} where
  -- what is added to the last of three parts
  on_third : (a b c d : List A) → a ++ (b ++ (c ++ d)) ≡ (a ++ (b ++ c)) ++ d
  on_third a b c d = ap (λ t. a ++ t) (sym (append_assoc b c d)) ∙ sym (append_assoc a (b ++ c) d)

-- a held line ends, and the next begins
module _ (n : ℕ) (h : Heading) (entry : List Move) (done : List Line) (l : Line) (moves : ℕ) where
  abbrev at : Stage → State
  at g = record { heading = h; stage = g; entry = entry; done = done; line = l; moves = moves }

  abbrev next : State
  next = record { heading = h; stage = Before; entry = entry; done = done ++ l ∷ []; line = begun []; moves = moves }

  held_rows : move_rows h.registers Entry entry ++ (lines_rows h.registers (done ++ l ∷ []) ++ []) ≡ move_rows h.registers Entry entry ++ (lines_rows h.registers done ++ line_rows h.registers l)
  held_rows = ap (λ t. move_rows h.registers Entry entry ++ t) (append-nil (lines_rows h.registers (done ++ l ∷ [])) ∙ lines_rows-push h.registers done l)

  held-sound : h.registers + h.slots ≤ 64 → MovesIn h.registers h.slots entry → AllByRecursion (LineIn h.registers h.slots) done → moves ≡ length entry + lines_moves done + line_moves l → moves ≤ 1024 → LineIn h.registers h.slots l → length (done ++ l ∷ []) < n → Sound n next
  held-sound few e d c m i lt = record { few = few; entry_in = e; done_in = All-push _ done l d i; count = omega (arith, lines_moves-push done l); few_moves = m; fits = (tt, lt) }

  opened-sound : (g : Stage) → Sound n (at g) → length (closed g done l) < n → Sound n (opened (at g)) × (rows_so_far (opened (at g)) ≡ rows_so_far (at g))
  opened-sound Start s lt = (record { few = s.few; entry_in = s.entry_in; done_in = s.done_in; count = s.count; few_moves = s.few_moves; fits = (tt, lt) }, refl)
  opened-sound Before s lt = (record { few = s.few; entry_in = s.entry_in; done_in = s.done_in; count = s.count; few_moves = s.few_moves; fits = s.fits }, refl)
  opened-sound Plain s lt = (held-sound s.few s.entry_in s.done_in s.count s.few_moves s.fits.0 lt, held_rows)
  opened-sound Branch s lt = (held-sound s.few s.entry_in s.done_in s.count s.few_moves s.fits.0 lt, held_rows)
  opened-sound Alternate s lt = (held-sound s.few s.entry_in s.done_in s.count s.few_moves s.fits.0 lt, held_rows)
  opened-sound Return s lt = (held-sound s.few s.entry_in s.done_in s.count s.few_moves s.fits lt, held_rows)

-- where a move goes at each stage
abbrev edge_of : Stage → Edge
edge_of Start = Entry
edge_of Before = In
edge_of Plain = Out
edge_of Branch = Out
edge_of Alternate = Alt
edge_of Return = Out

-- a line stays right when a move follows it
shaped_out : (m : Main) (outs alts : List Move) (x : Move) → (main_stage m ≡ Return → ⊥) → Shaped m outs alts → Shaped m (outs ++ x ∷ []) alts
shaped_out main.Skip outs alts x ne s = s
shaped_out (main.Const l k) outs alts x ne s = s
shaped_out (main.Binary o l a b) outs alts x ne s = s
shaped_out (main.Call l k a b) outs alts x ne s = s
shaped_out (main.Branch c a b) outs alts x ne s = s
shaped_out (main.Return a) outs alts x ne s = absurd (ne refl)

shaped_alt : (m : Main) (outs alts : List Move) (x : Move) → main_stage m ≡ Branch → Shaped m outs (alts ++ x ∷ [])
shaped_alt main.Skip outs alts x e = let z : ◌≡◌ {A = ℕ} 0 1 = cc in absurd (omega arith)
shaped_alt (main.Const l k) outs alts x e = let z : ◌≡◌ {A = ℕ} 0 1 = cc in absurd (omega arith)
shaped_alt (main.Binary o l a b) outs alts x e = let z : ◌≡◌ {A = ℕ} 0 1 = cc in absurd (omega arith)
shaped_alt (main.Call l k a b) outs alts x e = let z : ◌≡◌ {A = ℕ} 0 1 = cc in absurd (omega arith)
shaped_alt (main.Branch c a b) outs alts x e = tt
shaped_alt (main.Return a) outs alts x e = let z : ◌≡◌ {A = ℕ} 0 1 = cc in absurd (omega arith)

not_return : (g : Stage) → g ≡ Plain → g ≡ Return → ⊥
not_return g e f = let z : ◌≡◌ {A = ℕ} 0 1 = cc in omega arith

branch_not_return : (g : Stage) → g ≡ Branch → g ≡ Return → ⊥
branch_not_return g e f = let z : ◌≡◌ {A = ℕ} 0 1 = cc in omega arith

module _ (r s : ℕ) (l : Line) (x : Move) (ok : move_fits r s x ≡ true) where
  out_in : (main_stage l.main ≡ Return → ⊥) → LineIn r s l → LineIn r s (with_out l x)
  out_in ne i = record { ins_in = i.ins_in; main_in = i.main_in; outs_in = All-push _ l.outs x i.outs_in ok; alts_in = i.alts_in; shaped = shaped_out l.main l.outs l.alts x ne i.shaped }

  alt_in : main_stage l.main ≡ Branch → LineIn r s l → LineIn r s (with_alt l x)
  alt_in e i = record { ins_in = i.ins_in; main_in = i.main_in; outs_in = i.outs_in; alts_in = All-push _ l.alts x i.alts_in ok; shaped = shaped_alt l.main l.outs l.alts x e }

  out_rows : l.alts ≡ [] → line_rows r (with_out l x) ≡ line_rows r l ++ move_fields r Out x ∷ []
  out_rows none =
      ap (λ a. move_rows r In l.ins ++ (main_fields l.main ∷ (move_rows r Out (l.outs ++ x ∷ []) ++ move_rows r Alt a))) none
      ∙ ap (λ t. move_rows r In l.ins ++ (main_fields l.main ∷ t)) (append-nil _ ∙ rows-push r Out l.outs x ∙ ap (λ t. t ++ move_fields r Out x ∷ []) (sym (append-nil (move_rows r Out l.outs))))
      ∙ sym (append_assoc (move_rows r In l.ins) (main_fields l.main ∷ (move_rows r Out l.outs ++ [])) (move_fields r Out x ∷ []))
      ∙ ap (λ a. (move_rows r In l.ins ++ (main_fields l.main ∷ (move_rows r Out l.outs ++ move_rows r Alt a))) ++ move_fields r Out x ∷ []) (sym none)

  alt_rows : line_rows r (with_alt l x) ≡ line_rows r l ++ move_fields r Alt x ∷ []
  alt_rows =
      ap (λ t. move_rows r In l.ins ++ (main_fields l.main ∷ (move_rows r Out l.outs ++ t))) (rows-push r Alt l.alts x)
      ∙ on_third (move_rows r In l.ins) (main_fields l.main ∷ move_rows r Out l.outs) (move_rows r Alt l.alts) (move_fields r Alt x ∷ [])

-- a move is added
module _ (n : ℕ) (h : Heading) (entry : List Move) (done : List Line) (l : Line) (moves : ℕ) (x : Move) (ok : move_fits h.registers h.slots x ≡ true) (room : moves < 1024) where
  abbrev r : ℕ
  r = h.registers

  abbrev st : Stage → State
  st g = record { heading = h; stage = g; entry = entry; done = done; line = l; moves = moves }

  third : (k : Line) (g : Stage) (e : Edge) → open_rows r g k ≡ open_rows r g l ++ move_fields r e x ∷ []
      → move_rows r Entry entry ++ (lines_rows r done ++ open_rows r g k) ≡ (move_rows r Entry entry ++ (lines_rows r done ++ open_rows r g l)) ++ move_fields r e x ∷ []
  third k g e is = ap (λ t. move_rows r Entry entry ++ (lines_rows r done ++ t)) is ∙ on_third (move_rows r Entry entry) (lines_rows r done) (open_rows r g l) (move_fields r e x ∷ [])

  moved_sound : (g : Stage) → (g ≡ Return → ⊥) → Sound n (st g) → Sound n (with_move (st g) x) × (rows_so_far (with_move (st g) x) ≡ rows_so_far (st g) ++ move_fields r (edge_of g) x ∷ [])
  moved_sound Start ne s = (
    record { few = s.few; entry_in = All-push _ entry x s.entry_in ok; done_in = s.done_in; count = omega (arith, s.count, length_push entry x); few_moves = omega arith; fits = s.fits },
    ap (λ d. move_rows r Entry (entry ++ x ∷ []) ++ (lines_rows r d ++ [])) s.fits ∙ append-nil _ ∙ rows-push r Entry entry x
        ∙ ap (λ t. t ++ move_fields r Entry x ∷ []) (sym (append-nil (move_rows r Entry entry)))
        ∙ ap (λ d. (move_rows r Entry entry ++ (lines_rows r d ++ [])) ++ move_fields r Entry x ∷ []) (sym s.fits),
  )
  moved_sound Before ne s = (
    record { few = s.few; entry_in = s.entry_in; done_in = s.done_in; count = omega (arith, s.count, length_push l.ins x); few_moves = omega arith; fits = (All-push _ l.ins x s.fits.0 ok, s.fits.1) },
    third (with_in l x) Before In (rows-push r In l.ins x),
  )
  moved_sound Plain ne s = (
    record { few = s.few; entry_in = s.entry_in; done_in = s.done_in; count = omega (arith, s.count, length_push l.outs x); few_moves = omega arith; fits = (out_in r h.slots l x ok (not_return _ s.fits.2) s.fits.0, s.fits.1, s.fits.2) },
    third (with_out l x) Plain Out (out_rows r h.slots l x ok s.fits.1),
  )
  moved_sound Branch ne s = (
    record { few = s.few; entry_in = s.entry_in; done_in = s.done_in; count = omega (arith, s.count, length_push l.outs x); few_moves = omega arith; fits = (out_in r h.slots l x ok (branch_not_return _ s.fits.2) s.fits.0, s.fits.1, s.fits.2) },
    third (with_out l x) Branch Out (out_rows r h.slots l x ok s.fits.1),
  )
  moved_sound Alternate ne s = (
    record { few = s.few; entry_in = s.entry_in; done_in = s.done_in; count = omega (arith, s.count, length_push l.alts x); few_moves = omega arith; fits = (alt_in r h.slots l x ok s.fits.1 s.fits.0, s.fits.1) },
    third (with_alt l x) Alternate Alt (alt_rows r h.slots l x ok),
  )
  moved_sound Return ne s = absurd (ne refl)

-- a main line is added
module _ (n : ℕ) (h : Heading) (entry ins : List Move) (done : List Line) (moves : ℕ) where
  abbrev before : State
  before = record { heading = h; stage = Before; entry = entry; done = done; line = begun ins; moves = moves }

  main_rows : (m : Main) → move_rows h.registers Entry entry ++ (lines_rows h.registers done ++ (move_rows h.registers In ins ++ main_fields m ∷ [])) ≡ rows_so_far before ++ main_fields m ∷ []
  main_rows m = on_third (move_rows h.registers Entry entry) (lines_rows h.registers done) (move_rows h.registers In ins) (main_fields m ∷ [])

  main_counts : Sound n before → moves ≡ length entry + lines_moves done + (length ins + 0 + 0)
  main_counts s = omega (arith, s.count)

  line_in : (m : Main) → main_line_fits h.registers m ≡ true → Shaped m [] [] → Sound n before → LineIn h.registers h.slots (record { ins = ins; main = m; outs = []; alts = [] })
  line_in m k sh s = record { ins_in = s.fits.0; main_in = k; outs_in = tt; alts_in = tt; shaped = sh }

  main_sound : (m : Main) → main_line_fits h.registers m ≡ true → Sound n before → Sound n (with_main before m) × (rows_so_far (with_main before m) ≡ rows_so_far before ++ main_fields m ∷ [])
  main_sound main.Skip k s = (record { few = s.few; entry_in = s.entry_in; done_in = s.done_in; count = main_counts s; few_moves = s.few_moves; fits = (line_in main.Skip k refl s, refl, refl) }, main_rows main.Skip)
  main_sound (main.Const l v) k s = (record { few = s.few; entry_in = s.entry_in; done_in = s.done_in; count = main_counts s; few_moves = s.few_moves; fits = (line_in (main.Const l v) k refl s, refl, refl) }, main_rows (main.Const l v))
  main_sound (main.Binary o l a b) k s = (record { few = s.few; entry_in = s.entry_in; done_in = s.done_in; count = main_counts s; few_moves = s.few_moves; fits = (line_in (main.Binary o l a b) k refl s, refl, refl) }, main_rows (main.Binary o l a b))
  main_sound (main.Call l g a b) k s = (record { few = s.few; entry_in = s.entry_in; done_in = s.done_in; count = main_counts s; few_moves = s.few_moves; fits = (line_in (main.Call l g a b) k refl s, refl, refl) }, main_rows (main.Call l g a b))
  main_sound (main.Branch c a b) k s = (record { few = s.few; entry_in = s.entry_in; done_in = s.done_in; count = main_counts s; few_moves = s.few_moves; fits = (line_in (main.Branch c a b) k tt s, refl, refl) }, main_rows (main.Branch c a b))
  main_sound (main.Return a) k s = (record { few = s.few; entry_in = s.entry_in; done_in = s.done_in; count = main_counts s; few_moves = s.few_moves; fits = line_in (main.Return a) k (refl, refl) s }, main_rows (main.Return a))

-- a move that may stand

record Stood (n : ℕ) (st : State) (e : Edge) (t : State) : Type 0 where
  pub sound : Sound n t
  pub rows : rows_so_far t ≡ rows_so_far st
  pub edge : edge_of t.stage ≡ e
  pub goes_on : t.stage ≡ Return → ⊥
  pub heading : t.heading ≡ st.heading

module _ (n k : ℕ) (h : Heading) (entry : List Move) (done : List Line) (l : Line) (moves : ℕ) (t : State) where
  abbrev was : Stage → State
  was g = record { heading = h; stage = g; entry = entry; done = done; line = l; moves = moves }

  stays : (g : Stage) → (g ≡ Return → ⊥) → Sound n (was g) → ◌≡◌ {A = Result State Refusal} (Ok (was g)) (Ok t) → Stood n (was g) (edge_of g) t
  stays g ne s e = let is : was g ≡ t = cc in subst (Stood n (was g) (edge_of g)) is (record { sound = s; rows = refl; edge = refl; goes_on = ne; heading = refl })

  no_before : Before ≡ Return → ⊥
  no_before e = let z : ◌≡◌ {A = ℕ} 0 1 = cc in omega arith

  opens : (g : Stage) → Sound n (was g) → next_node n k (was g) ≡ Ok t → Stood n (was g) In t
  opens g s e = go (ltb (length (closed g done l)) n) refl e
    where
      go : (b : Bool) → ltb (length (closed g done l)) n ≡ b → cond b (Ok (opened (was g))) (Err (OutOfOrder k)) ≡ Ok t → Stood n (was g) In t
      go true b q =
          let p = opened-sound n h entry done l moves g s (ltb-true _ n b) in
          let is : opened (was g) ≡ t = cc in
          subst (Stood n (was g) In) is (record { sound = p.0; rows = p.1; edge = refl; goes_on = no_before; heading = refl })
      go false b q = grind arith

  no_start : Start ≡ Return → ⊥
  no_start e = let z : ◌≡◌ {A = ℕ} 0 1 = cc in omega arith

  no_alternate : Alternate ≡ Return → ⊥
  no_alternate e = let z : ◌≡◌ {A = ℕ} 0 1 = cc in omega arith

  turns : Sound n (was Branch) → ◌≡◌ {A = Result State Refusal} (Ok (was Alternate)) (Ok t) → Stood n (was Branch) Alt t
  turns s e =
      let is : was Alternate ≡ t = cc in
      let as-alternate : Sound n (was Alternate) = record { few = s.few; entry_in = s.entry_in; done_in = s.done_in; count = s.count; few_moves = s.few_moves; fits = (s.fits.0, s.fits.2) } in
      subst (Stood n (was Branch) Alt) is (record { sound = as-alternate; rows = refl; edge = refl; goes_on = no_alternate; heading = refl })

  stood : (e : Edge) (g : Stage) → Sound n (was g) → stand n k e (was g) ≡ Ok t → Stood n (was g) e t
  stood Entry Start s q = stays Start no_start s q
  stood Entry Before s q = grind arith
  stood Entry Plain s q = grind arith
  stood Entry Branch s q = grind arith
  stood Entry Alternate s q = grind arith
  stood Entry Return s q = grind arith
  stood In Start s q = opens Start s q
  stood In Before s q = opens Before s q
  stood In Plain s q = opens Plain s q
  stood In Branch s q = opens Branch s q
  stood In Alternate s q = opens Alternate s q
  stood In Return s q = opens Return s q
  stood Out Start s q = grind arith
  stood Out Before s q = grind arith
  stood Out Plain s q = stays Plain (not_return Plain refl) s q
  stood Out Branch s q = stays Branch (branch_not_return Branch refl) s q
  stood Out Alternate s q = grind arith
  stood Out Return s q = grind arith
  stood Alt Start s q = grind arith
  stood Alt Before s q = grind arith
  stood Alt Plain s q = grind arith
  stood Alt Branch s q = turns s q
  stood Alt Alternate s q = stays Alternate no_alternate s q
  stood Alt Return s q = grind arith

-- a line is read

record Took (n : ℕ) (st : State) (i : Item) (t : State) : Type 0 where
  pub sound : Sound n t
  pub rows : rows_so_far t ≡ rows_so_far st ++ item_fields st.heading.registers i ∷ []
  pub heading : t.heading ≡ st.heading

module _ (n k : ℕ) (st t : State) (s : Sound n st) where
  took_move : (e : Edge) (m : Move) → move_fits st.heading.registers st.heading.slots m ≡ true → take_item n k st (item.Move e m) ≡ Ok t → Took n st (item.Move e m) t
  took_move e m ok q = go (stand n k e st) refl q
    where
      added : (u : State) → Stood n st e u → (b : Bool) → ltb u.moves 1024 ≡ b → cond b (Ok (with_move u m)) (Err (TooManyMoves k)) ≡ Ok t → Took n st (item.Move e m) t
      added u o true b q =
          let ok' : move_fits u.heading.registers u.heading.slots m ≡ true = ap (λ x. move_fits x.registers x.slots m) o.heading ∙ ok in
          let p = moved_sound n u.heading u.entry u.done u.line u.moves m ok' (ltb-true u.moves 1024 b) u.stage o.goes_on o.sound in
          let is : with_move u m ≡ t = cc in
          subst (Took n st (item.Move e m)) is (record { sound = p.0; rows = p.1 ∙ (λ j. o.rows j ++ move_fields (o.heading j).registers (o.edge j) m ∷ []); heading = o.heading })
      added u o false b q = grind arith

      go : (x : Result State Refusal) → stand n k e st ≡ x → and_go x (with_room k m) ≡ Ok t → Took n st (item.Move e m) t
      go (Err f) a q = grind arith
      go (Ok u) a q = added u (stood n k st.heading st.entry st.done st.line st.moves u e st.stage s a) (ltb u.moves 1024) refl q

  took_main : (m : Main) → main_line_fits st.heading.registers m ≡ true → take_item n k st (item.Main m) ≡ Ok t → Took n st (item.Main m) t
  took_main m ok q = go (ltb (length (closed st.stage st.done st.line)) n) refl q
    where
      go : (b : Bool) → ltb (length (closed st.stage st.done st.line)) n ≡ b → and_go (cond b (Ok (opened st)) (Err (OutOfOrder k))) (λ u. Ok (with_main u m)) ≡ Ok t → Took n st (item.Main m) t
      go true b q =
          let o = opened-sound n st.heading st.entry st.done st.line st.moves st.stage s (ltb-true _ n b) in
          let p = main_sound n st.heading st.entry (pending st.stage st.line) (closed st.stage st.done st.line) st.moves m ok o.0 in
          let is : with_main (opened st) m ≡ t = cc in
          subst (Took n st (item.Main m)) is (record { sound = p.0; rows = p.1 ∙ ap (λ x. x ++ main_fields m ∷ []) o.1; heading = refl })
      go false b q = grind arith

  took : (i : Item) → item_fits st.heading i ≡ true → take_item n k st i ≡ Ok t → Took n st i t
  took (item.Move e m) ok q = took_move e m ok q
  took (item.Main m) ok q = took_main m ok q

-- all lines are read

record Ran (n : ℕ) (st : State) (rows : List (List (List ℕ))) (a : Allocation) : Type 0 where
  pub text : move_rows a.registers Entry a.entry ++ lines_rows a.registers a.lines ≡ rows_so_far st ++ rows
  pub registers : a.registers ≡ st.heading.registers
  pub slots : a.slots ≡ st.heading.slots
  pub nodes : length a.lines ≡ n
  pub few_moves : length a.entry + lines_moves a.lines ≤ 1024
  pub entry_in : MovesIn a.registers a.slots a.entry
  pub lines_in : AllByRecursion (LineIn a.registers a.slots) a.lines

module _ (n : ℕ) (h : Heading) (entry : List Move) (done : List Line) (l : Line) (moves : ℕ) where
  abbrev there : Stage → State
  there g = record { heading = h; stage = g; entry = entry; done = done; line = l; moves = moves }

  ended_held : (g : Stage) → Sound n (there g) → LineIn h.registers h.slots l → moves ≡ length entry + lines_moves done + line_moves l
      → length (done ++ l ∷ []) ≡ n → rows_so_far (there g) ≡ move_rows h.registers Entry entry ++ (lines_rows h.registers done ++ line_rows h.registers l)
      → Ran n (there g) [] (record { registers = h.registers; slots = h.slots; entry = entry; lines = done ++ l ∷ [] })
  ended_held g s i c e is = record {
    text = ap (λ x. move_rows h.registers Entry entry ++ x) (lines_rows-push h.registers done l) ∙ sym is ∙ sym (append-nil _);
    registers = refl;
    slots = refl;
    nodes = e;
    few_moves = omega (arith, s.few_moves, lines_moves-push done l);
    entry_in = s.entry_in;
    lines_in = All-push _ done l s.done_in i;
  }

  ends : (g : Stage) → Sound n (there g) → length (closed g done l) ≡ n → Ran n (there g) [] (whole (opened (there g)))
  ends Start s e = record {
    text = ap (λ x. move_rows h.registers Entry entry ++ x) (sym (append-nil (lines_rows h.registers done))) ∙ sym (append-nil _);
    registers = refl;
    slots = refl;
    nodes = e;
    few_moves = omega (arith, s.few_moves, s.count);
    entry_in = s.entry_in;
    lines_in = s.done_in;
  }
  ends Before s e = absurd (omega (arith, s.fits.1))
  ends Plain s e = ended_held Plain s s.fits.0 s.count e refl
  ends Branch s e = ended_held Branch s s.fits.0 s.count e refl
  ends Alternate s e = ended_held Alternate s s.fits.0 s.count e refl
  ends Return s e = ended_held Return s s.fits s.count e refl

ran : (n : ℕ) (rows : List (List (List ℕ))) (st : State) (k : ℕ) (a : Allocation) → Sound n st → run n rows st k ≡ Ok a → Ran n st rows a
unfolding run one_line
ran n [] st k a s e = go (eqb (length (closed st.stage st.done st.line)) n) refl e
  where
    go : (b : Bool) → eqb (length (closed st.stage st.done st.line)) n ≡ b → cond b (Ok (whole (opened st))) (Err (MissingNodes k)) ≡ Ok a → Ran n st [] a
    go true b q = let is : whole (opened st) ≡ a = cc in subst (Ran n st []) is (ends n st.heading st.entry st.done st.line st.moves st.stage s (eqb-true _ n b))
    go false b q = grind arith
ran n (fs ∷ rows) st k a s e = read (ran n rows) (item_of st.heading fs) refl e
  where
    more : ((u : State) (j : ℕ) (b : Allocation) → Sound n u → run n rows u j ≡ Ok b → Ran n u rows b) → (i : Item) → Says st.heading fs i → (x : Result State Refusal) → take_item n k st i ≡ x → and_go x (λ u. run n rows u (k + 1)) ≡ Ok a → Ran n st (fs ∷ rows) a
    more ih i says (Err f) q e = grind arith
    more ih i says (Ok u) q e =
        let t = took n k st u s i says.1 q in
        let p = ih u (k + 1) a t.sound e in
        record {
          text =
              p.text ∙ ap (λ x. x ++ rows) t.rows ∙ append_assoc (rows_so_far st) (item_fields st.heading.registers i ∷ []) rows
              ∙ ap (λ f. rows_so_far st ++ f ∷ rows) (sym says.0);
          registers = p.registers ∙ ap (λ x. x.registers) t.heading;
          slots = p.slots ∙ ap (λ x. x.slots) t.heading;
          nodes = p.nodes;
          few_moves = p.few_moves;
          entry_in = p.entry_in;
          lines_in = p.lines_in;
        }

    read : ((u : State) (j : ℕ) (b : Allocation) → Sound n u → run n rows u j ≡ Ok b → Ran n u rows b) → (x : Result Item Fault) → item_of st.heading fs ≡ x → and_go (take_line n k st x) (λ u. run n rows u (k + 1)) ≡ Ok a → Ran n st (fs ∷ rows) a
    read ih (Err f) q e = grind arith
    read ih (Ok i) q e = more ih i (item_read st.heading s.few i fs q) (take_item n k st i) refl e

-- the moves that are counted on the way are those of the allocation

pub fresh_sound : (n : ℕ) (h : Heading) → h.registers + h.slots ≤ 64 → Sound n (fresh h)
fresh_sound n h few = record { few = few; entry_in = tt; done_in = tt; count = omega arith; few_moves = omega arith; fits = refl }

pub line_sound : (n k : ℕ) (st t : State) (fs : List (List ℕ)) → Sound n st → one_line n k st fs ≡ Ok t → Sound n t
unfolding one_line
line_sound n k st t fs s e = go (item_of st.heading fs) refl e
  where
    go : (x : Result Item Fault) → item_of st.heading fs ≡ x → take_line n k st x ≡ Ok t → Sound n t
    go (Err f) q e = grind arith
    go (Ok i) q e = (took n k st t s i (item_read st.heading s.few i fs q).1 e).sound

module _ (n : ℕ) (h : Heading) (entry : List Move) (done : List Line) (l : Line) (moves : ℕ) where
  -- all nodes are done
  all_counted : (g : Stage) → Sound n (there n h entry done l moves g) → length (closed g done l) ≡ n → moves ≡ length entry + lines_moves (closed g done l)
  all_counted Start s e = omega (arith, s.count)
  all_counted Before s e = absurd (omega (arith, s.fits.1))
  all_counted Plain s e = omega (arith, s.count, lines_moves-push done l)
  all_counted Branch s e = omega (arith, s.count, lines_moves-push done l)
  all_counted Alternate s e = omega (arith, s.count, lines_moves-push done l)
  all_counted Return s e = omega (arith, s.count, lines_moves-push done l)

pub finish_counted : (n k : ℕ) (st : State) (a : Allocation) → Sound n st → finish n k st ≡ Ok a → st.moves ≡ move_count a
finish_counted n k st a s e = go (eqb (length (closed st.stage st.done st.line)) n) refl e
  where
    go : (b : Bool) → eqb (length (closed st.stage st.done st.line)) n ≡ b → cond b (Ok (whole (opened st))) (Err (MissingNodes k)) ≡ Ok a → st.moves ≡ move_count a
    go true b q =
        let is : whole (opened st) ≡ a = cc in
        all_counted n st.heading st.entry st.done st.line st.moves st.stage s (eqb-true _ n b) ∙ ap move_count is
    go false b q = grind arith

-- a whole text

record Found (p n : ℕ) (rows : List (List (List ℕ))) (a : Allocation) : Type 0 where
  pub text : rows ≡ rows_of a
  pub formed : WellFormed p n a

found : (p n : ℕ) (rows : List (List (List ℕ))) (a : Allocation) → headed p n rows ≡ Ok a → Found p n rows a
found p n [] a e = grind arith
found p n (fs ∷ rows) a e = go (heading_of p n (map shape_of fs)) refl e
  where
    go : (o : Option Heading) → heading_of p n (map shape_of fs) ≡ o → started n rows o ≡ Ok a → Found p n (fs ∷ rows) a
    go None q e = grind arith
    go (Some h) q e =
        let head = heading_read p n h fs q in
        let k = head.1 in
        let r = ran n rows (fresh h) 2 a (fresh_sound n h (omega (arith, k.registers_high, k.slots_high))) e in
        record {
          text = λ i. (head.0 ∙ (λ j. heading_fields (sym r.registers j) (sym r.slots j) (sym r.nodes j))) i ∷ sym r.text i;
          formed = record {
            registers_low = subst (λ x. 3 ≤ x) (sym r.registers) k.registers_low;
            registers_high = subst (λ x. x ≤ 16) (sym r.registers) k.registers_high;
            slots_low = subst (λ x. p ≤ x) (sym r.slots) k.slots_low;
            slots_high = subst (λ x. x ≤ 48) (sym r.slots) k.slots_high;
            nodes = r.nodes;
            few_nodes = k.few_nodes;
            few_moves = r.few_moves;
            entry_in = r.entry_in;
            lines_in = r.lines_in;
          };
        }

whole_text : (p n : ℕ) (bs : List ℕ) (a : Allocation) → read_allocation p n bs ≡ Ok a → (sized bs ≡ true) × Found p n (map fields_of (lines_of bs)) a
unfolding read_allocation
whole_text p n bs a e = go (sized bs) refl e
  where
    go : (b : Bool) → sized bs ≡ b → cond b (headed p n (map fields_of (lines_of bs))) (Err AllocationSize) ≡ Ok a → (sized bs ≡ true) × Found p n (map fields_of (lines_of bs)) a
    go true b q = (b, found p n (map fields_of (lines_of bs)) a q)
    go false b q = grind arith

pub writes_back : WrittenBack
unfolding render
writes_back p n bs a e = let f = whole_text p n bs a e in ap written (sym f.1.text) ∙ written_cut bs f.0

pub reads_well : ReadsWell
reads_well p n bs a e = (whole_text p n bs a e).1.formed
