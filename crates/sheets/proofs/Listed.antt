-- Sets of equations as lists, on which the definitions compute.
use Rattle.std.proofs.Common.{◌≡◌, ℕ, zero, suc, ◌<◌, ◌≤◌, Bool, true, false, cond, not, ◌&&◌, ◌||◌, eqb, ltb, List, [], ◌∷◌, ◌++◌, map, length, get_or, set, replicate, Some, None, Option, sym, refl, ap, ◌∙◌, subst, ap₂, arith, length-set, get_or-set_other, get_or-set_same}
use mathlib.Core.Path.{fun_ext}
use lib.ListN.{length-replicate}
use Rattle.std.proofs.lemmas.Bool.{both_ways, and_parts, and_from, or_left, or_right, eqb-true, eqb-false, eq-eqb, lt-ltb}
use Rattle.std.proofs.lemmas.Bool.Decides.{nat_tests}
use Rattle.allocation.specs.Lines.{edge_moves, line_of}
use Rattle.sets.specs.Masks.{any, Below, names}
use Rattle.sets.specs.Least.{Growing}
use Rattle.sets.proofs.Least.{Updated, updated, start, finish, least_unique}
use Rattle.source.specs.Nodes.{operands, edges, successor, node_at, AllSound}
use Rattle.source.specs.Reading.{Source}
use Rattle.source.specs.declared.node.Node.{Node}
use Rattle.source.specs.declared.node.Node.TheVariants.{Const, Mov, Binary, Call, Branch, Return}
use Rattle.source.proofs.Soundness.{all_sound}
use Rattle.allocation.specs.Allocations.{Line, Allocation, target, origins}
use Rattle.allocation.specs.declared.line.Move.{Move}
use Rattle.allocation.specs.declared.line.Main.{Main}
use Rattle.equations.specs.Equations.{back_move, back_moves, renamed, dropped, used, unset, after, equation_step, Equations}
use Rattle.equations.specs.Questions.{Question, questions, entry_question, Clear, FirstEquation, Fails, Passed}
use Rattle.equations.specs.Verdict.{PassedBelow}
use Rattle.equations.proofs.Growth.{step_mono, after_same}
use Rattle.sheets.specs.Checks.{listed}

abbrev same : ℕ × ℕ → ℕ × ℕ → Bool
same x e = eqb e.0 x.0 && eqb e.1 x.1

abbrev keep : (ℕ × ℕ → Bool) → List (ℕ × ℕ) → List (ℕ × ℕ)
keep p [] = []
keep p (x ∷ xs) = let t = keep p xs in cond (p x) (x ∷ t) t

same_is : (x e : ℕ × ℕ) → same x e ≡ true → e ≡ x
same_is x e h =
    let parts = and_parts (eqb e.0 x.0) (eqb e.1 x.1) h in
    λ i. (eqb-true e.0 x.0 parts.0 i, eqb-true e.1 x.1 parts.1 i)

-- ---- each operation on sets, as one on lists

keep_here : (p : ℕ × ℕ → Bool) (x e : ℕ × ℕ) → (same x e && p x) ≡ (same x e && p e)
keep_here p x e = go (same x e) refl
  where
    go : (b : Bool) → same x e ≡ b → (b && p x) ≡ (b && p e)
    go true h = ap p (sym (same_is x e h))
    go false h = refl

keep_true : (s r q b l : Bool) → b ≡ true → (s && b) ≡ (s && q) → l ≡ (r && q) → (s || l) ≡ ((s || r) && q)
keep_true s r q b l h k i = grind (arith, nat_tests)

keep_false : (s r q b l : Bool) → b ≡ false → (s && b) ≡ (s && q) → l ≡ (r && q) → l ≡ ((s || r) && q)
keep_false s r q b l h k i = grind (arith, nat_tests)

kept : (p : ℕ × ℕ → Bool) (xs : List (ℕ × ℕ)) (e : ℕ × ℕ) → listed (keep p xs) e ≡ (listed xs e && p e)
kept p [] e = refl
kept p (x ∷ xs) e = go (p x) refl (kept p xs e)
  where
    go : (b : Bool) → p x ≡ b → listed (keep p xs) e ≡ (listed xs e && p e) → listed (cond b (x ∷ keep p xs) (keep p xs)) e ≡ ((same x e || listed xs e) && p e)
    go true h ih = keep_true (same x e) (listed xs e) (p e) (p x) (listed (keep p xs) e) h (keep_here p x e) ih
    go false h ih = keep_false (same x e) (listed xs e) (p e) (p x) (listed (keep p xs) e) h (keep_here p x e) ih

joined : (xs ys : List (ℕ × ℕ)) (e : ℕ × ℕ) → listed (xs ++ ys) e ≡ (listed xs e || listed ys e)
joined [] ys e = refl
joined (x ∷ xs) ys e = ap (λ (y : Bool). same x e || y) (joined xs ys e) ∙ either_way (same x e) (listed xs e) (listed ys e)
  where
    either_way : (a b c : Bool) → (a || (b || c)) ≡ ((a || b) || c)
    either_way true b c = refl
    either_way false b c = refl

module _ (m n : Bool) (x0 x1 el ev to from : ℕ) where
  away : x0 ≡ to
      → ((eqb el from && eqb ev x1) || ((m && not (eqb el to)) || (eqb el from && n)))
      ≡ ((((eqb el x0 && eqb ev x1) || m) && not (eqb el to)) || (eqb el from && ((eqb to x0 && eqb ev x1) || n)))
  away h = grind (arith, nat_tests)

  stays : (x0 ≡ to → ⊥)
      → ((eqb el x0 && eqb ev x1) || ((m && not (eqb el to)) || (eqb el from && n)))
      ≡ ((((eqb el x0 && eqb ev x1) || m) && not (eqb el to)) || (eqb el from && ((eqb to x0 && eqb ev x1) || n)))
  stays h = grind (arith, nat_tests)

  other_name : x1 ≡ to
      → ((eqb el x0 && eqb ev from) || ((m && not (eqb ev to)) || (eqb ev from && n)))
      ≡ ((((eqb el x0 && eqb ev x1) || m) && not (eqb ev to)) || (eqb ev from && ((eqb el x0 && eqb to x1) || n)))
  other_name h = grind (arith, nat_tests)

  same_name : (x1 ≡ to → ⊥)
      → ((eqb el x0 && eqb ev x1) || ((m && not (eqb ev to)) || (eqb ev from && n)))
      ≡ ((((eqb el x0 && eqb ev x1) || m) && not (eqb ev to)) || (eqb ev from && ((eqb el x0 && eqb to x1) || n)))
  same_name h = grind (arith, nat_tests)

none-and : (q : Bool) → false ≡ (q && false)
none-and true = refl
none-and false = refl

abbrev moved : Move → ℕ × ℕ → ℕ × ℕ
moved m x = cond (eqb x.0 m.to) (m.from, x.1) x

moved_is : (m : Move) (xs : List (ℕ × ℕ)) (e : ℕ × ℕ) → listed (map (moved m) xs) e ≡ ((listed xs e && not (eqb e.0 m.to)) || (eqb e.0 m.from && listed xs (m.to, e.1)))
moved_is m [] e = none-and (eqb e.0 m.from)
moved_is m (x ∷ xs) e = ap (λ (y : Bool). same (moved m x) e || y) (moved_is m xs e) ∙ go (eqb x.0 m.to) refl
  where
    go : (b : Bool) → eqb x.0 m.to ≡ b
        → (same (cond b (m.from, x.1) x) e || ((listed xs e && not (eqb e.0 m.to)) || (eqb e.0 m.from && listed xs (m.to, e.1))))
        ≡ (((same x e || listed xs e) && not (eqb e.0 m.to)) || (eqb e.0 m.from && (same x (m.to, e.1) || listed xs (m.to, e.1))))
    go true h = away (listed xs e) (listed xs (m.to, e.1)) x.0 x.1 e.0 e.1 m.to m.from (eqb-true x.0 m.to h)
    go false h = stays (listed xs e) (listed xs (m.to, e.1)) x.0 x.1 e.0 e.1 m.to m.from (eqb-false x.0 m.to h)

abbrev called : ℕ → ℕ → ℕ × ℕ → ℕ × ℕ
called d a x = cond (eqb x.1 d) (x.0, a) x

called_is : (d a : ℕ) (xs : List (ℕ × ℕ)) (e : ℕ × ℕ) → listed (map (called d a) xs) e ≡ ((listed xs e && not (eqb e.1 d)) || (eqb e.1 a && listed xs (e.0, d)))
called_is d a [] e = none-and (eqb e.1 a)
called_is d a (x ∷ xs) e = ap (λ (y : Bool). same (called d a x) e || y) (called_is d a xs e) ∙ go (eqb x.1 d) refl
  where
    go : (b : Bool) → eqb x.1 d ≡ b
        → (same (cond b (x.0, a) x) e || ((listed xs e && not (eqb e.1 d)) || (eqb e.1 a && listed xs (e.0, d))))
        ≡ (((same x e || listed xs e) && not (eqb e.1 d)) || (eqb e.1 a && (same x (e.0, d) || listed xs (e.0, d))))
    go true h = other_name (listed xs e) (listed xs (e.0, d)) x.0 x.1 e.0 e.1 d a (eqb-true x.1 d h)
    go false h = same_name (listed xs e) (listed xs (e.0, d)) x.0 x.1 e.0 e.1 d a (eqb-false x.1 d h)

-- ---- the definitions on lists

abbrev pub back_list : List Move → List (ℕ × ℕ) → List (ℕ × ℕ)
back_list [] xs = xs
back_list (m ∷ ms) xs = map (moved m) (back_list ms xs)

pub back_is : (ms : List Move) (xs : List (ℕ × ℕ)) (E : ℕ × ℕ → Bool) → listed xs ≡ E → listed (back_list ms xs) ≡ back_moves ms E
unfolding back_moves back_move
back_is [] xs E h = h
back_is (m ∷ ms) xs E h =
    fun_ext (moved_is m (back_list ms xs)) ∙ ap (λ (G : ℕ × ℕ → Bool). λ (e : ℕ × ℕ). (G e && not (eqb e.0 m.to)) || (eqb e.0 m.from && G (m.to, e.1))) (back_is ms xs E h)

abbrev drop_list : Option ℕ → Option ℕ → List (ℕ × ℕ) → List (ℕ × ℕ)
drop_list d m xs = keep (λ x. not (names m x.0)) (keep (λ x. not (names d x.1)) xs)

dropped_is : (d m : Option ℕ) (xs : List (ℕ × ℕ)) (E : ℕ × ℕ → Bool) → listed xs ≡ E → listed (drop_list d m xs) ≡ dropped d m E
unfolding dropped
dropped_is d m xs E h =
    fun_ext (λ (e : ℕ × ℕ). kept (λ x. not (names m x.0)) (keep (λ x. not (names d x.1)) xs) e ∙ ap (λ (b : Bool). b && not (names m e.0)) (kept (λ x. not (names d x.1)) xs e))
    ∙ ap (λ (G : ℕ × ℕ → Bool). λ (e : ℕ × ℕ). (G e && not (names d e.1)) && not (names m e.0)) h

renamed_is : (d a : ℕ) (xs : List (ℕ × ℕ)) (E : ℕ × ℕ → Bool) → listed xs ≡ E → listed (map (called d a) xs) ≡ renamed d a E
unfolding renamed
renamed_is d a xs E h = fun_ext (called_is d a xs) ∙ ap (λ (G : ℕ × ℕ → Bool). λ (e : ℕ × ℕ). (G e && not (eqb e.1 d)) || (eqb e.1 a && G (e.0, d))) h

abbrev unset_list : Node → Main → List (ℕ × ℕ) → List (ℕ × ℕ)
unset_list (Const d k next) main xs = drop_list (Some d) (target main) xs
unset_list (Mov d a next) main xs = map (called d a) xs
unset_list (Binary o d a b next) main xs = drop_list (Some d) (target main) xs
unset_list (Call d h a b next) main xs = drop_list (Some d) (target main) xs
unset_list (Branch c a b taken other) main xs = drop_list None (target main) xs
unset_list (Return a) main xs = drop_list None (target main) xs

unset_is : (node : Node) (main : Main) (xs : List (ℕ × ℕ)) (E : ℕ × ℕ → Bool) → listed xs ≡ E → listed (unset_list node main xs) ≡ unset node main E
unset_is (Const d k next) main xs E h = dropped_is (Some d) (target main) xs E h
unset_is (Mov d a next) main xs E h = renamed_is d a xs E h
unset_is (Binary o d a b next) main xs E h = dropped_is (Some d) (target main) xs E h
unset_is (Call d g a b next) main xs E h = dropped_is (Some d) (target main) xs E h
unset_is (Branch c a b taken other) main xs E h = dropped_is None (target main) xs E h
unset_is (Return a) main xs E h = dropped_is None (target main) xs E h

abbrev use_list : List ℕ → List ℕ → List (ℕ × ℕ) → List (ℕ × ℕ)
use_list [] rs xs = xs
use_list (v ∷ vs) [] xs = xs
use_list (v ∷ vs) (r ∷ rs) xs = (r, v) ∷ use_list vs rs xs

used_is : (vs rs : List ℕ) (xs : List (ℕ × ℕ)) (E : ℕ × ℕ → Bool) → listed xs ≡ E → listed (use_list vs rs xs) ≡ used vs rs E
unfolding used
used_is [] rs xs E h = h
used_is (v ∷ vs) [] xs E h = h
used_is (v ∷ vs) (r ∷ rs) xs E h = ap (λ (G : ℕ × ℕ → Bool). λ (e : ℕ × ℕ). (eqb e.0 r && eqb e.1 v) || G e) (used_is vs rs xs E h)

-- ---- a family as a list of lists

abbrev pub row : List (List (ℕ × ℕ)) → ℕ → List (ℕ × ℕ)
row rows n = get_or rows n []

abbrev pub row_sets : List (List (ℕ × ℕ)) → ℕ → ℕ × ℕ → Bool
row_sets rows n = listed (row rows n)

abbrev over_edges : List (List (ℕ × ℕ)) → Node → Line → List Bool → List (ℕ × ℕ)
over_edges rows node line [] = []
over_edges rows node line (b ∷ bs) = back_list (edge_moves line b) (row rows (successor node b)) ++ over_edges rows node line bs

over_is : (rows : List (List (ℕ × ℕ))) (node : Node) (line : Line) (bs : List Bool) (e : ℕ × ℕ)
    → listed (over_edges rows node line bs) e ≡ any (λ b. back_moves (edge_moves line b) (row_sets rows (successor node b)) e) bs
over_is rows node line [] e = refl
over_is rows node line (b ∷ bs) e =
    joined (back_list (edge_moves line b) (row rows (successor node b))) (over_edges rows node line bs) e
    ∙ ap₂ ◌||◌ (ap (λ (E : ℕ × ℕ → Bool). E e) (back_is (edge_moves line b) (row rows (successor node b)) _ refl)) (over_is rows node line bs e)

abbrev pub after_list : List (List (ℕ × ℕ)) → Node → Line → List (ℕ × ℕ)
after_list rows node line = over_edges rows node line (edges node)

after_is : (rows : List (List (ℕ × ℕ))) (node : Node) (line : Line) → listed (after_list rows node line) ≡ after (row_sets rows) node line
unfolding after
after_is rows node line = fun_ext (over_is rows node line (edges node))

-- ---- tests on all of a list

abbrev pub all_of : (ℕ × ℕ → Bool) → List (ℕ × ℕ) → Bool
all_of p [] = true
all_of p (x ∷ xs) = p x && all_of p xs

all_listed : (p : ℕ × ℕ → Bool) (xs : List (ℕ × ℕ)) → all_of p xs ≡ true → (e : ℕ × ℕ) → listed xs e ≡ true → p e ≡ true
all_listed p [] h e m = absurd (both_ways false refl m)
all_listed p (x ∷ xs) h e m = go (all_listed p xs (and_parts (p x) (all_of p xs) h).1 e) (same x e) refl
  where
    go : (listed xs e ≡ true → p e ≡ true) → (b : Bool) → same x e ≡ b → p e ≡ true
    go rest true q = ap p (same_is x e q) ∙ (and_parts (p x) (all_of p xs) h).0
    go rest false q = rest (ap (λ (y : Bool). y || listed xs e) (sym q) ∙ m)

agree : (p q : Bool) → (p ≡ true → q ≡ true) → (q ≡ true → p ≡ true) → p ≡ q
agree true q f g = sym (f refl)
agree false true f g = g refl
agree false false f g = refl

abbrev pub same_list : List (ℕ × ℕ) → List (ℕ × ℕ) → Bool
same_list xs ys = all_of (listed ys) xs && all_of (listed xs) ys

pub same_listed : (xs ys : List (ℕ × ℕ)) → same_list xs ys ≡ true → (e : ℕ × ℕ) → listed xs e ≡ listed ys e
same_listed xs ys h e =
    let parts = and_parts (all_of (listed ys) xs) (all_of (listed xs) ys) h in
    agree (listed xs e) (listed ys e) (all_listed (listed ys) xs parts.0 e) (all_listed (listed xs) ys parts.1 e)

abbrev pub clear_list : (ℕ × ℕ → Bool) → List (ℕ × ℕ) → Bool
clear_list p xs = all_of (λ x. not (p x)) xs

off : (b : Bool) → not b ≡ true → b ≡ false
off true q = sym q
off false q = refl

pub clear_is : (xs : List (ℕ × ℕ)) (p : ℕ × ℕ → Bool) → clear_list p xs ≡ true → Clear (listed xs) p
clear_is xs p h e = go (listed xs e) refl
  where
    go : (b : Bool) → listed xs e ≡ b → (b && p e) ≡ false
    go true q = off (p e) (all_listed (λ x. not (p x)) xs h e q)
    go false q = refl

-- every question is answered yes
abbrev pub passed_list : List Question → List (ℕ × ℕ) → Bool
passed_list [] xs = true
passed_list (q ∷ qs) xs = clear_list q.forbids xs && passed_list qs xs

pub passed_is : (qs : List Question) (xs : List (ℕ × ℕ)) → passed_list qs xs ≡ true → Passed qs (listed xs)
passed_is [] xs h = tt
passed_is (q ∷ qs) xs h = let p = and_parts (clear_list q.forbids xs) (passed_list qs xs) h in (clear_is xs q.forbids p.0, passed_is qs xs p.1)

-- e is the first that passes the test
abbrev pub earlier : ℕ × ℕ → ℕ × ℕ → Bool
earlier e x = ltb x.0 e.0 || (eqb x.0 e.0 && ltb x.1 e.1)

abbrev pub first_list : (ℕ × ℕ → Bool) → List (ℕ × ℕ) → ℕ × ℕ → Bool
first_list p xs e = (listed xs e && p e) && clear_list (λ x. p x && earlier e x) xs

pub first_is : (xs : List (ℕ × ℕ)) (p : ℕ × ℕ → Bool) (e : ℕ × ℕ) → first_list p xs e ≡ true → FirstEquation (λ d. listed xs d && p d) e
first_is xs p e h =
    let parts = and_parts (listed xs e && p e) (clear_list (λ x. p x && earlier e x) xs) h in
    let none = clear_is xs (λ x. p x && earlier e x) parts.1 in
    record {
      here = parts.0;
      before = λ d l. without (listed xs d) (p d) (earlier e d) (none d) (or_left (ltb d.0 e.0) _ (lt-ltb d.0 e.0 l));
      lower = λ v l. without (listed xs (e.0, v)) (p (e.0, v)) (earlier e (e.0, v)) (none (e.0, v)) (or_right (ltb e.0 e.0) _ (and_from _ _ (eq-eqb e.0 e.0 refl) (lt-ltb v e.1 l)));
    }
  where
    without : (a b c : Bool) → (a && (b && c)) ≡ false → c ≡ true → (a && b) ≡ false
    without a b c h k = grind (arith, nat_tests)

-- ---- tests of all numbers below n

abbrev pub each : ℕ → (ℕ → Bool) → Bool
each zero p = true
each (suc n) p = p zero && each n (λ k. p (suc k))

pub each_at : (n : ℕ) (p : ℕ → Bool) → each n p ≡ true → (k : ℕ) → k < n → p k ≡ true
each_at zero p e k h = absurd (omega arith)
each_at (suc n) p e zero h = (and_parts (p zero) (each n (λ k. p (suc k))) e).0
each_at (suc n) p e (suc k) h = each_at n (λ j. p (suc j)) (and_parts (p zero) (each n (λ j. p (suc j))) e).1 k (omega arith)

-- ---- visits of nodes in turn, up to the least solution

module _ (s : Source) (a : Allocation) (sound-all : AllSound s.temporaries s.nodes) where
  abbrev pub after_row : List (List (ℕ × ℕ)) → ℕ → List (ℕ × ℕ)
  after_row rows n = after_list rows (node_at s.nodes n) (line_of a n)

  abbrev pub before_row : List (List (ℕ × ℕ)) → ℕ → List (ℕ × ℕ)
  before_row rows n = let node = node_at s.nodes n in let l = line_of a n in back_list l.ins (use_list (operands node) (origins l.main) (unset_list node l.main (after_row rows n)))

  before_is : (rows : List (List (ℕ × ℕ))) (n : ℕ) → listed (before_row rows n) ≡ equation_step s a (row_sets rows) n
  before_is rows n =
      let node = node_at s.nodes n in
      let l = line_of a n in
      back_is l.ins _ _ (used_is (operands node) (origins l.main) _ _ (unset_is node l.main _ _ (after_is rows node l)))

  abbrev pub visits : List ℕ → List (List (ℕ × ℕ)) → List (List (ℕ × ℕ))
  visits [] rows = rows
  visits (n ∷ ns) rows = let r = before_row rows n in visits ns (set rows n r)

  abbrev Up : List (List (ℕ × ℕ)) → Type 0
  Up rows = Growing (length s.nodes) (equation_step s a) (row_sets rows) × (length rows ≡ length s.nodes)

  visited : (rows : List (List (ℕ × ℕ))) (n : ℕ) → n < length rows → Updated (length s.nodes) (equation_step s a) (row_sets rows) (row_sets (set rows n (before_row rows n))) n
  visited rows n h = record {
    here = λ e. ap (λ (r : List (ℕ × ℕ)). listed r e) (get_or-set_same rows n (before_row rows n) [] h) ∙ ap (λ (E : ℕ × ℕ → Bool). E e) (before_is rows n);
    others = λ m ne e. ap (λ (r : List (ℕ × ℕ)). listed r e) (get_or-set_other rows n m (before_row rows n) [] ne);
  }

  visits_up : (ns : List ℕ) (rows : List (List (ℕ × ℕ))) → Below (length s.nodes) ns → Up rows → Up (visits ns rows)
  visits_up [] rows all up = up
  visits_up (n ∷ ns) rows all up =
      visits_up ns (set rows n (before_row rows n)) all.1
      (updated (length s.nodes) (equation_step s a) (step_mono s.temporaries s.nodes (line_of a) sound-all) n up.0 (visited rows n (omega (arith, all.0, up.1))), length-set rows n (before_row rows n) ∙ up.1)

  empties_none : (k n : ℕ) (e : ℕ × ℕ) → row_sets (replicate k []) n e ≡ false
  empties_none zero n e = refl
  empties_none (suc k) zero e = refl
  empties_none (suc k) (suc n) e = empties_none k n e

  -- visits that end with every equation solved
  module _ (ns : List ℕ) (all : Below (length s.nodes) ns)
      (solved : each (length s.nodes) (λ n. same_list (row (visits ns (replicate (length s.nodes) [])) n) (before_row (visits ns (replicate (length s.nodes) [])) n)) ≡ true) where
    abbrev pub rows : List (List (ℕ × ℕ))
    rows = visits ns (replicate (length s.nodes) [])

    pub least : Equations s a (row_sets rows)
    least =
        finish (length s.nodes) (equation_step s a)
        (visits_up ns (replicate (length s.nodes) []) all (start (length s.nodes) (equation_step s a) (row_sets (replicate (length s.nodes) [])) (λ n _ e. empties_none (length s.nodes) n e), length-replicate (length s.nodes) [])).0
        (λ n h e. same_listed (row rows n) (before_row rows n) (each_at (length s.nodes) (λ k. same_list (row rows k) (before_row rows k)) solved n h) e ∙ ap (λ (E : ℕ × ℕ → Bool). E e) (before_is rows n))

    module _ (X : ℕ → ℕ × ℕ → Bool) (x : Equations s a X) where
      known_at : (n : ℕ) → n < length s.nodes → (e : ℕ × ℕ) → X n e ≡ row_sets rows n e
      known_at n h e = least_unique (length s.nodes) (equation_step s a) x least n h e

      pub known : (n : ℕ) → n < length s.nodes → X n ≡ row_sets rows n
      known n h = fun_ext (known_at n h)

      known_after : (n : ℕ) → n < length s.nodes → after X (node_at s.nodes n) (line_of a n) ≡ listed (after_row rows n)
      known_after n h =
          after_same s.temporaries (length s.nodes) X (row_sets rows) (node_at s.nodes n) (all_sound s.temporaries s.nodes sound-all n h) (line_of a n) known_at
          ∙ sym (after_is rows (node_at s.nodes n) (line_of a n))

      -- the questions of the nodes below n
      pub passes : (n : ℕ) → n ≤ length s.nodes → each n (λ k. passed_list (questions k (node_at s.nodes k) (line_of a k).main) (after_row rows k)) ≡ true → PassedBelow s.nodes (line_of a) X n
      passes n l h k lt =
          subst (Passed (questions k (node_at s.nodes k) (line_of a k).main)) (sym (known_after k (omega arith)))
          (passed_is _ (after_row rows k) (each_at n (λ j. passed_list (questions j (node_at s.nodes j) (line_of a j).main) (after_row rows j)) h k lt))

      -- a question of node n
      pub fails : (n : ℕ) → n < length s.nodes → (q : Question) (e : ℕ × ℕ) → first_list q.forbids (after_row rows n) e ≡ true → Fails q (after X (node_at s.nodes n) (line_of a n)) (q.refusal e)
      fails n l q e h = subst (λ (E : ℕ × ℕ → Bool). Fails q E (q.refusal e)) (sym (known_after n l)) (record { equation = e; first = first_is (after_row rows n) q.forbids e h; is = refl })

      pub clears : (n : ℕ) → n < length s.nodes → (p : ℕ × ℕ → Bool) → clear_list p (after_row rows n) ≡ true → Clear (after X (node_at s.nodes n) (line_of a n)) p
      clears n l p h = subst (λ (E : ℕ × ℕ → Bool). Clear E p) (sym (known_after n l)) (clear_is (after_row rows n) p h)

      -- the entry
      entry_known : 0 < length s.nodes → listed (back_list a.entry (row rows 0)) ≡ back_moves a.entry (X 0)
      entry_known l = back_is a.entry (row rows 0) (X 0) (sym (known 0 l))

      pub enters : 0 < length s.nodes → clear_list (entry_question s a).forbids (back_list a.entry (row rows 0)) ≡ true → Clear (back_moves a.entry (X 0)) (entry_question s a).forbids
      enters l h = subst (λ (E : ℕ × ℕ → Bool). Clear E (entry_question s a).forbids) (entry_known l) (clear_is (back_list a.entry (row rows 0)) (entry_question s a).forbids h)

      pub enters_not : 0 < length s.nodes → (e : ℕ × ℕ) → first_list (entry_question s a).forbids (back_list a.entry (row rows 0)) e ≡ true → Fails (entry_question s a) (back_moves a.entry (X 0)) ((entry_question s a).refusal e)
      enters_not l e h =
          subst (λ (E : ℕ × ℕ → Bool). Fails (entry_question s a) E ((entry_question s a).refusal e)) (entry_known l)
          (record { equation = e; first = first_is (back_list a.entry (row rows 0)) (entry_question s a).forbids e h; is = refl })
