-- Laws of reading the lines one after another.
use Rattle.std.proofs.Common.{◌≡◌, ℕ, ◌+◌, ◌<◌, ◌≤◌, true, false, ltb, List, [], ◌∷◌, map, length, Some, None, Ok, Err, Option, Result, MatchResult, MatchOption, sym, ap, ◌∙◌, arith}
use Rattle.std.proofs.lemmas.Bool.{cond-true, cond-false, lt-ltb, le-ltb, eq-eqb, ne_eqb}
use Rattle.text.specs.Parts.{lines_of, fields_of, sized}
use Rattle.text.specs.Fields.{shapes_of}
use Rattle.text.specs.Lines.{lines_left, LineSteps}
use Rattle.text.specs.declared.lines.Line.{Line}
use Rattle.text.specs.declared.lines.Lines.{Lines}
use Rattle.refusal.specs.declared.Refusal.{Refusal}
use Rattle.refusal.specs.declared.Refusal.TheVariants.{AllocationSize, AllocationHeading, OutOfOrder, MissingNodes}
use Rattle.allocation.specs.declared.heading.Heading.{Heading}
use Rattle.allocation.specs.declared.item.Item.{Item}
use Rattle.text.specs.declared.fields.Fault.{Fault}
use Rattle.allocation.specs.Headings.{heading_of}
use Rattle.allocation.specs.Items.{item_of}
use Rattle.reading.specs.Reading.{State, fresh, opened, and_go, if_stands, next_node, refused, take_line, one_line, whole, finish, run, started, headed, read_allocation}

-- the next node is begun, or there is none
pub next_ok : (n k : ℕ) (s t : State) → t ≡ opened s → length t.done < n → next_node n k s ≡ Ok t
next_ok n k s t e h =
    ap (λ u. if_stands k (ltb (length u.done) n) u) (sym e) ∙ cond-true _ _ _ (lt-ltb (length t.done) n h)

pub next_not : (n k : ℕ) (s t : State) → t ≡ opened s → n ≤ length t.done → next_node n k s ≡ Err (OutOfOrder k)
next_not n k s t e h =
    ap (λ u. if_stands k (ltb (length u.done) n) u) (sym e) ∙ cond-false _ _ _ (le-ltb (length t.done) n h)

-- one line
pub one_took : (n k : ℕ) (st : State) (fs : List (List ℕ)) (x : Result Item Fault) → x ≡ item_of st.heading fs → one_line n k st fs ≡ take_line n k st x
unfolding one_line
one_took n k st fs x e = ap (take_line n k st) (sym e)

-- a fault of a line, as the reader hands it on
pub one_failed : (n k : ℕ) (st : State) (fs : List (List ℕ)) (x : Result Item Fault) (m : Result Item Refusal) (e : Refusal) → x ≡ item_of st.heading fs → MatchResult x (λ i. m ≡ Ok i) (λ f. m ≡ Err (refused k f)) → m ≡ Err e → one_line n k st fs ≡ Err e
one_failed n k st fs (Ok i) m e is went fails = let z : ◌≡◌ {A = Result Item Refusal} (Ok i) (Err e) = sym went ∙ fails in grind arith
one_failed n k st fs (Err f) m e is went fails =
    let q : ◌≡◌ {A = Result Item Refusal} (Err (refused k f)) (Err e) = sym went ∙ fails in
    let p : refused k f ≡ e = cc in
    one_took n k st fs (Err f) is ∙ ap Err p

module _ (n : ℕ) (st : State) (k : ℕ) {bss ls : List (List ℕ)} {l : List ℕ} (cut : bss ≡ l ∷ ls) where
  pub run_more : (t : State) → one_line n k st (fields_of l) ≡ Ok t → run n (map fields_of bss) st k ≡ run n (map fields_of ls) t (k + 1)
  unfolding run
  run_more t one = ap (λ b. run n (map fields_of b) st k) cut ∙ ap (λ x. and_go x (λ u. run n (map fields_of ls) u (k + 1))) one

  pub run_stop : (e : Refusal) → one_line n k st (fields_of l) ≡ Err e → run n (map fields_of bss) st k ≡ Err e
  unfolding run
  run_stop e one = ap (λ b. run n (map fields_of b) st k) cut ∙ ap (λ x. and_go x (λ u. run n (map fields_of ls) u (k + 1))) one

pub run_ends : (n : ℕ) (st : State) (k : ℕ) (ls : List (List ℕ)) → ls ≡ [] → run n (map fields_of ls) st k ≡ finish n k st
unfolding run
run_ends n st k ls e = ap (λ b. run n (map fields_of b) st k) e

pub finish_ok : (n k : ℕ) (s t : State) → t ≡ opened s → length t.done ≡ n → finish n k s ≡ Ok (whole t)
finish_ok n k s t e h = cond-true _ _ _ (eq-eqb _ n (ap (λ u. length u.done) (sym e) ∙ h)) ∙ ap (λ u. Ok (whole u)) (sym e)

pub finish-not : (n k : ℕ) (s t : State) → t ≡ opened s → (length t.done ≡ n → ⊥) → finish n k s ≡ Err (MissingNodes k)
finish-not n k s t e h = cond-false _ _ _ (ne_eqb _ n (λ q. h (ap (λ u. length u.done) e ∙ q)))

-- a whole text
module _ (p n : ℕ) (bs : List ℕ) where
  pub not-sized : sized bs ≡ false → read_allocation p n bs ≡ Err AllocationSize
  unfolding read_allocation
  not-sized e = cond-false _ _ _ e

  -- the first line, as the reader takes it
  module _ (good : sized bs ≡ true) (s t : Lines) (all : lines_left s ≡ lines_of bs) where
    pub no_heading : (m : Option Line) (o : Option Heading) → LineSteps s m t → MatchOption m (o ≡ None) (λ l. o ≡ heading_of p n (shapes_of l.bytes.now)) → o ≡ None → read_allocation p n bs ≡ Err AllocationHeading
    unfolding read_allocation
    no_heading None o step read none = cond-true _ _ _ good ∙ ap (λ ls. headed p n (map fields_of ls)) (sym all ∙ step.0)
    no_heading (Some l) o step read none = cond-true _ _ _ good ∙ ap (λ ls. headed p n (map fields_of ls)) (sym all ∙ step.0) ∙ ap (started n (map fields_of (lines_left t))) (sym read ∙ none)

    -- the lines after the heading are read from line 2 on
    pub with_heading : (m : Option Line) (o : Option Heading) (h : Heading) → LineSteps s m t → MatchOption m (o ≡ None) (λ l. o ≡ heading_of p n (shapes_of l.bytes.now)) → o ≡ Some h → s.number ≡ 1 → read_allocation p n bs ≡ run n (map fields_of (lines_left t)) (fresh h) t.number
    unfolding read_allocation
    with_heading None o h step read some one = let z : ◌≡◌ {A = Option Heading} None (Some h) = sym read ∙ some in grind arith
    with_heading (Some l) o h step read some one =
        let two : 2 ≡ t.number = omega (arith, step.3) in
        cond-true _ _ _ good ∙ ap (λ ls. headed p n (map fields_of ls)) (sym all ∙ step.0) ∙ ap (started n (map fields_of (lines_left t))) (sym read ∙ some) ∙ ap (run n (map fields_of (lines_left t)) (fresh h)) two
