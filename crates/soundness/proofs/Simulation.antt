-- The two machines, node by node.
use Rattle.std.proofs.Common.{◌≡◌, ℕ, zero, suc, ◌+◌, ◌<◌, ◌≤◌, Bool, true, false, ◌||◌, ◌⊎◌, List, [], ◌∷◌, map, length, get_or, set, is_some, Some, None, Option, sym, refl, ap, ◌∙◌, subst, ap₂, subst₂, ⊎_elim, arith, length-set, get_or-set_other, get_or-set_same}
use Rattle.std.proofs.lemmas.Bool.{cases_Bool, both_ways}
use Rattle.std.proofs.lemmas.Bool.Decides.{nat_tests}
use Rattle.std.specs.List.{AllByRecursion}
use Rattle.sets.specs.Masks.{any}
use Rattle.source.specs.Nodes.{Action, const, mov, binary, call, branch, return, action, node_at, result_of, operands, edges, successor}
use Rattle.source.specs.Reading.{Source}
use Rattle.source.specs.declared.node.Node.{Node}
use Rattle.source.specs.declared.node.Node.TheVariants.{Const, Mov, Binary, Call, Branch, Return}
use Rattle.allocation.specs.Allocations.{Line, Allocation, target, origins}
use Rattle.allocation.specs.Ranges.{main_line_fits, move_fits}
use Rattle.allocation.specs.declared.line.Move.{Move}
use Rattle.allocation.specs.declared.line.Main.{Main}
use Rattle.allocation.specs.Lines.{main_action, edge_moves, line_of, arrival}
use Rattle.allocation.specs.WellFormed.{MovesIn}
use Rattle.equations.specs.Equations.{back_moves, back_main, dropped, unset, after}
use Rattle.equations.specs.Questions.{skippable, elsewhere, overwritten, Clear, questions, questions_of, Passed}
use Rattle.equations.specs.Verdict.{Fits, Accepted}
use Rattle.values.specs.Kinds.{Arithmetic}
use Rattle.values.specs.Hosts.{Answers}
use Rattle.machine.specs.declared.outcome.Outcome.{Outcome}
use Rattle.machine.specs.declared.outcome.Entry.{Entry}
use Rattle.std.specs.declared.ops.ControlFlow.{ControlFlow}
use Rattle.machine.specs.Machine.{Log, Ending, after as then_drive, Effect, effect, passed, carried, Cells, assign, store, read, write_all, move_all, full, source_step, source_from, start, given, allocated_step, allocated_from, entered}
use Rattle.machine.specs.Steps.{main_effect}
use Rattle.machine.proofs.Ranges.{sound_next}
use Rattle.machine.proofs.Rules.{drive_full, drive_step}
use Rattle.soundness.specs.Law.{Alike, SameRuns}
use Rattle.soundness.proofs.Located.{Located}
use Rattle.soundness.proofs.Agree.{Agree, agree_moves, length_moves, agree_used, same_operands, agree_none, agree_set, agree_unset, agree_copy}
use Rattle.soundness.proofs.Questions.{at_target, of_result, no_result, a_parameter, matching}

-- what a node and a main line with one action have in common
abbrev arity : Option Action → ℕ
arity None = 0
arity (Some (const k)) = 0
arity (Some mov) = 1
arity (Some (binary o)) = 2
arity (Some (call h)) = 2
arity (Some (branch c)) = 2
arity (Some return) = 1

abbrev sets_one : Option Action → Bool
sets_one None = false
sets_one (Some (const k)) = true
sets_one (Some mov) = true
sets_one (Some (binary o)) = true
sets_one (Some (call h)) = true
sets_one (Some (branch c)) = false
sets_one (Some return) = false

operands-arity : (n : Node) → length (operands n) ≡ arity (Some (action n))
operands-arity (Const d k next) = refl
operands-arity (Mov d a next) = refl
operands-arity (Binary o d a b next) = refl
operands-arity (Call d h a b next) = refl
operands-arity (Branch c a b taken other) = refl
operands-arity (Return a) = refl

origins-arity : (m : Main) → length (origins m) ≡ arity (main_action m)
origins-arity Main.Skip = refl
origins-arity (Main.Const l k) = refl
origins-arity (Main.Binary o l a b) = refl
origins-arity (Main.Call l h a b) = refl
origins-arity (Main.Branch c a b) = refl
origins-arity (Main.Return a) = refl

result_sets : (n : Node) → is_some (result_of n) ≡ sets_one (Some (action n))
result_sets (Const d k next) = refl
result_sets (Mov d a next) = refl
result_sets (Binary o d a b next) = refl
result_sets (Call d h a b next) = refl
result_sets (Branch c a b taken other) = refl
result_sets (Return a) = refl

target_sets : (m : Main) → is_some (target m) ≡ sets_one (main_action m)
target_sets Main.Skip = refl
target_sets (Main.Const l k) = refl
target_sets (Main.Binary o l a b) = refl
target_sets (Main.Call l h a b) = refl
target_sets (Main.Branch c a b) = refl
target_sets (Main.Return a) = refl

not_mov : (m : Main) → main_action m ≡ Some mov → ⊥
not_mov Main.Skip e = let z : ◌≡◌ {A = ℕ} 0 1 = cc in omega arith
not_mov (Main.Const l k) e = let z : ◌≡◌ {A = ℕ} 0 1 = cc in omega arith
not_mov (Main.Binary o l a b) e = let z : ◌≡◌ {A = ℕ} 0 1 = cc in omega arith
not_mov (Main.Call l h a b) e = let z : ◌≡◌ {A = ℕ} 0 1 = cc in omega arith
not_mov (Main.Branch c a b) e = let z : ◌≡◌ {A = ℕ} 0 1 = cc in omega arith
not_mov (Main.Return a) e = let z : ◌≡◌ {A = ℕ} 0 1 = cc in omega arith

skip_is : (m : Main) → main_action m ≡ None → m ≡ Main.Skip
skip_is Main.Skip e = refl
skip_is (Main.Const l k) e = cc
skip_is (Main.Binary o l a b) e = cc
skip_is (Main.Call l h a b) e = cc
skip_is (Main.Branch c a b) e = cc
skip_is (Main.Return a) e = cc

unset_drops : (n : Node) (m : Main) (O : ℕ × ℕ → Bool) → main_action m ≡ Some (action n) → unset n m O ≡ dropped (result_of n) (target m) O
unset_drops (Const d k next) m O e = refl
unset_drops (Mov d a next) m O e = absurd (not_mov m e)
unset_drops (Binary o d a b next) m O e = refl
unset_drops (Call d h a b next) m O e = refl
unset_drops (Branch c a b taken other) m O e = refl
unset_drops (Return a) m O e = refl

-- the location is below k, if there is one
abbrev Under : ℕ → Option ℕ → Type 0
Under k None = Unit {0}
Under k (Some l) = l < k

target_under : (r k : ℕ) (m : Main) → r ≤ k → main_line_fits r m ≡ true → Under k (target m)
target_under r k Main.Skip h e = tt
target_under r k (Main.Const l i) h e = grind (arith, nat_tests)
target_under r k (Main.Binary o l a b) h e = grind (arith, nat_tests)
target_under r k (Main.Call l f a b) h e = grind (arith, nat_tests)
target_under r k (Main.Branch c a b) h e = tt
target_under r k (Main.Return a) h e = tt

move_to : (r s : ℕ) (m : Move) → move_fits r s m ≡ true → m.to < r + s
move_to r s m e = grind (arith, nat_tests)

all_to : (a : Allocation) (ms : List Move) → MovesIn a.registers a.slots ms → AllByRecursion (λ m. m.to < a.registers + a.slots) ms
all_to a [] h = tt
all_to a (m ∷ ms) h = (move_to a.registers a.slots m h.0, all_to a ms h.1)

or_left : (a b : Bool) → a ≡ true → (a || b) ≡ true
or_left a b p = rw p

length-store : {V : Type 0} (t : Option ℕ) (x : V) (cs : List V) → length (store t x cs) ≡ length cs
length-store None x cs = refl
length-store (Some l) x cs = length-set cs l x

-- a result set on both sides
agree_result : {V : Type 0} (K : Arithmetic V) (k : ℕ) (n : Node) (d t : Option ℕ) (O : ℕ × ℕ → Bool) (x : V) (f : ℕ → V) (cs : List V) → result_of n ≡ d → is_some d ≡ is_some t → Passed (questions_of k n t) O → Under (length cs) t → Agree K (dropped d t O) f cs → Agree K O (assign d x f) (store t x cs)
agree_result K k n None None O x f cs r s pass under h = agree_none K O f cs h
agree_result K k n None (Some t) O x f cs r s pass under h = absurd (both_ways false refl s)
agree_result K k n (Some d) None O x f cs r s pass under h = absurd (both_ways false refl (sym s))
agree_result K k n (Some d) (Some t) O x f cs r s pass under h =
    agree_set K d t O x f cs under (at_target O d t (subst (λ (o : Option ℕ). Clear O (elsewhere o t)) r pass.0)) (of_result O d t (subst (λ (o : Option ℕ). Clear O (overwritten o t)) r pass.1.0)) h

module _ {V S : Type 0} (K : Arithmetic V) (E : Answers S V) where
  -- the edge that a node takes is one of its edges
  edge_among : (n : Node) (vs : List V) (h : S) (e : Bool) → (effect K E (Some (action n)) vs h).taken ≡ ControlFlow.Continue e → (F : Bool → Bool) → F e ≡ true → any F (edges n) ≡ true
  edge_among (Const d k next) vs h e t F q = let same : true ≡ e = cc in or_left (F true) false (ap F same ∙ q)
  edge_among (Mov d a next) vs h e t F q = let same : true ≡ e = cc in or_left (F true) false (ap F same ∙ q)
  edge_among (Binary o d a b next) vs h e t F q = let same : true ≡ e = cc in or_left (F true) false (ap F same ∙ q)
  edge_among (Call d f a b next) vs h e t F q = let same : true ≡ e = cc in or_left (F true) false (ap F same ∙ q)
  edge_among (Branch c a b taken other) vs h e t F q = go e q
    where
      right : (x : Bool) → F false ≡ true → (x || (F false || false)) ≡ true
      right true p = refl
      right false p = or_left (F false) false p

      go : (e : Bool) → F e ≡ true → (F true || (F false || false)) ≡ true
      go true p = or_left (F true) (F false || false) p
      go false p = right (F true) p
  edge_among (Return a) vs h e t F q = let z : ◌≡◌ {A = ℕ} 0 1 = cc in absurd (omega arith)

  -- runs that end with one value and one log are related, whatever their memories
  abbrev EndedAlike : {A B : Type 0} → (Ending V S A → Ending V S B → Type 0) → Type 0
  EndedAlike {A} {B} R = (v : V) (q : Log V S) (x : A) (y : B) → R (record { outcome = Outcome.Ended v; log = q; memory = x }) (record { outcome = Outcome.Ended v; log = q; memory = y })

  -- one node carried out on both sides, with the same effect
  carried_alike : {A B : Type 0} (R : Ending V S A → Ending V S B → Type 0) → EndedAlike R → (n : Node) (t : ControlFlow V Bool) (ts : List (Entry V)) (h : S) (p : Log V S) (x : A) (y : B) (F : Bool → A) (G : Bool → B) (i : Log V S → A → Ending V S A) (j : Log V S → B → Ending V S B) → ((e : Bool) → t ≡ ControlFlow.Continue e → R (i (passed (successor n e) ts h p) (F e)) (j (passed (successor n e) ts h p) (G e))) → R (then_drive (carried n t ts h p x F) i) (then_drive (carried n t ts h p y G) j)
  carried_alike R re n (ControlFlow.Continue e) ts h p x y F G i j on = on e refl
  carried_alike R re n (ControlFlow.Break v) ts h p x y F G i j on = re v (passed p.node ts h p) x y

  -- one node on both sides, with `On` for what comes after it
  module _ (outs : Bool → List Move) (k : ℕ) (O : ℕ × ℕ → Bool) (p : Log V S) (f : ℕ → V) (g : Cells V) (i : Log V S → (ℕ → V) → Ending V S (ℕ → V)) (j : Log V S → Cells V → Ending V S (Cells V)) (R : Ending V S (ℕ → V) → Ending V S (Cells V) → Type 0) (re : EndedAlike R) where
    abbrev On : Node → Type 0
    On n = (f' : ℕ → V) (cs : List V) (e : Bool) → Agree K O f' cs → length cs ≡ length g.cells → ((F : Bool → Bool) → F e ≡ true → any F (edges n) ≡ true) → (q : Log V S) → q.node ≡ successor n e → R (i q f') (j q (move_all K (outs e) (record { cells = cs; moves = g.moves })))

    abbrev of_source : Node → Effect V S
    of_source n = effect K E (Some (action n)) (map f (operands n)) p.host

    abbrev Sides : Node → Effect V S → Option ℕ → Type 0
    Sides n y t = R (then_drive (carried n (of_source n).taken (of_source n).told (of_source n).host p f (λ e. assign (result_of n) (of_source n).value f)) i) (then_drive (carried n y.taken y.told y.host p g (λ e. move_all K (outs e) (record { cells = store t y.value g.cells; moves = g.moves }))) j)

    same_action : (n : Node) (m : Main) → main_action m ≡ Some (action n) → Passed (questions k n m) O → Agree K (back_main n m O) f g.cells → Under (length g.cells) (target m) → On n → Sides n (main_effect K E m g.cells p.host) (target m)
    same_action n m e pass h under on =
        let x = of_source n in
        let values : map (read K g.cells) (origins m) ≡ map f (operands n) = same_operands K (operands n) (origins m) (unset n m O) f g.cells (operands-arity n ∙ sym (ap arity e) ∙ sym (origins-arity m)) h in
        let same : main_effect K E m g.cells p.host ≡ x = ap₂ {C = Effect V S} (λ o vs. effect K E o vs p.host) e values in
        let left : Agree K (dropped (result_of n) (target m) O) f g.cells = subst (λ (Y : ℕ × ℕ → Bool). Agree K Y f g.cells) (unset_drops n m O e) (agree_used K (operands n) (origins m) (unset n m O) f g.cells h) in
        let out : Agree K O (assign (result_of n) x.value f) (store (target m) x.value g.cells) = agree_result K k n (result_of n) (target m) O x.value f g.cells refl (result_sets n ∙ sym (ap sets_one e) ∙ sym (target_sets m)) pass under left in
        subst (λ (y : Effect V S). Sides n y (target m)) (sym same) (carried_alike R re n x.taken x.told x.host p f g (λ _. assign (result_of n) x.value f) (λ b. move_all K (outs b) (record { cells = store (target m) x.value g.cells; moves = g.moves })) i j (λ b t. on (assign (result_of n) x.value f) (store (target m) x.value g.cells) b out (length-store (target m) x.value g.cells) (edge_among n (map f (operands n)) p.host b t) _ refl))

    skipped : (n : Node) → skippable (action n) ≡ true → Passed (questions k n Main.Skip) O → Agree K (unset n Main.Skip O) f g.cells → On n → Sides n (main_effect K E Main.Skip g.cells p.host) None
    skipped (Const d c next) s pass h on =
        on (assign (Some d) (K.constant c) f) g.cells true (agree_unset K d O (K.constant c) f g.cells (no_result O d pass.0) h) refl (λ F q. or_left (F true) false q) _ refl
    skipped (Mov d a next) s pass h on = on (assign (Some d) (f a) f) g.cells true (agree_copy K d a O f g.cells h) refl (λ F q. or_left (F true) false q) _ refl
    skipped (Binary o d a b next) s pass h on =
        on (assign (Some d) (K.operate o (f a) (f b)) f) g.cells true (agree_unset K d O (K.operate o (f a) (f b)) f g.cells (no_result O d pass.0) h) refl (λ F q. or_left (F true) false q) _ refl
    skipped (Call d c a b next) s pass h on = absurd (both_ways false refl s)
    skipped (Branch c a b taken other) s pass h on = absurd (both_ways false refl s)
    skipped (Return a) s pass h on = absurd (both_ways false refl s)

    node_alike : (n : Node) (m : Main) → (main_action m ≡ Some (action n)) ⊎ ((main_action m ≡ None) × (skippable (action n) ≡ true)) → Passed (questions k n m) O → Agree K (back_main n m O) f g.cells → Under (length g.cells) (target m) → On n → Sides n (main_effect K E m g.cells p.host) (target m)
    node_alike n m way pass h under on =
        ⊎_elim (λ e. same_action n m e pass h under on) (λ e.
        let is : m ≡ Main.Skip = skip_is m e.0 in
        subst (λ (w : Main). Sides n (main_effect K E w g.cells p.host) (target w)) (sym is) (skipped n e.1 (subst (λ (w : Main). Passed (questions k n w) O) is pass) (subst (λ (w : Main). Agree K (unset n w O) f g.cells) is (agree_used K (operands n) (origins m) (unset n m O) f g.cells h)) on)) way

-- arguments in their places
module _ {V : Type 0} (z : V) where
  place_below : (r : ℕ) (xs c : List V) (i : ℕ) → i < r → get_or (write_all r xs c) i z ≡ get_or c i z
  place_below r [] c i h = refl
  place_below r (x ∷ xs) c i h = place_below (suc r) xs (set c r x) i (omega arith) ∙ get_or-set_other c r i x z (omega arith)

  place_at : (r : ℕ) (xs c : List V) (i j : ℕ) → j ≡ r + i → i < length xs → r + length xs ≤ length c → get_or (write_all r xs c) j z ≡ get_or xs i z
  place_at r [] c i j e h k = absurd (omega arith)
  place_at r (x ∷ xs) c zero j e h k =
      place_below (suc r) xs (set c r x) j (omega arith) ∙ ap (λ q. get_or (set c r x) q z) {y = r} (omega arith) ∙ get_or-set_same c r x z (omega arith)
  place_at r (x ∷ xs) c (suc i) j e h k = place_at (suc r) xs (set c r x) i j (omega arith) (omega arith) (rw (length-set c r x) (omega arith))

  length_place : (r : ℕ) (xs c : List V) → length (write_all r xs c) ≡ length c
  length_place r [] c = refl
  length_place r (x ∷ xs) c = length_place (suc r) xs (set c r x) ∙ length-set c r x

on_both : {A B : Type 0} (R : A → B → Type 0) {x x' : A} {y y' : B} → x ≡ x' → y ≡ y' → R x' y' → R x y
on_both R p q h = subst₂ R (sym p) (sym q) h

module _ {V S : Type 0} (K : Arithmetic V) (E : Answers S V) (s : Source) (a : Allocation) (size : ℕ) (X : ℕ → ℕ × ℕ → Bool) (fits : Fits s a) (loc : Located a) (acc : Accepted s a size X) (room : ℕ) where
  -- the equations of the node hold
  record Simulates (p : Log V S) (f : ℕ → V) (c : Cells V) : Type 0 where
    within : p.node < length s.nodes
    wide : a.registers + a.slots ≤ length c.cells
    agree : Agree K (X p.node) f c.cells

  located_edge : (n : ℕ) → n < length a.lines → (e : Bool) → MovesIn a.registers a.slots (edge_moves (line_of a n) e)
  located_edge n h true = (loc.line n h).outs
  located_edge n h false = (loc.line n h).alts

  -- what holds behind a node holds on the edge that it takes
  on_edge : (n : ℕ) (e : Bool) (f : ℕ → V) (cs : List V) → ((F : Bool → Bool) → F e ≡ true → any F (edges (node_at s.nodes n)) ≡ true) → Agree K (after X (node_at s.nodes n) (line_of a n)) f cs → Agree K (back_moves (edge_moves (line_of a n) e) (X (successor (node_at s.nodes n) e))) f cs
  unfolding after
  on_edge n e f cs among h l v q = h l v (among (λ b. back_moves (edge_moves (line_of a n) b) (X (successor (node_at s.nodes n) b)) (l, v)) q)

  arrive : (n : ℕ) (e : Bool) (f : ℕ → V) (c : Cells V) → n < length s.nodes → a.registers + a.slots ≤ length c.cells → ((F : Bool → Bool) → F e ≡ true → any F (edges (node_at s.nodes n)) ≡ true) → Agree K (after X (node_at s.nodes n) (line_of a n)) f c.cells → (q : Log V S) → q.node ≡ successor (node_at s.nodes n) e → Simulates q f (move_all K (edge_moves (line_of a n) e) c)
  arrive n e f c within wide among h q at =
      let ms = edge_moves (line_of a n) e in
      let next = successor (node_at s.nodes n) e in
      let there : Agree K (X next) f (move_all K ms c).cells = agree_moves K ms (X next) f c (a.registers + a.slots) wide (all_to a ms (located_edge n (omega (arith, fits.lines)) e)) (on_edge n e f c.cells among h) in
      record {
        within = subst (λ (i : ℕ). i < length s.nodes) (sym at) (sound_next s.temporaries (length s.nodes) (node_at s.nodes n) e fits.some (fits.sound n within));
        wide = rw (length_moves K ms c) wide;
        agree = subst (λ (i : ℕ). Agree K (X i) f (move_all K ms c).cells) (sym at) there;
      }

  alike_from : (left : ℕ) (p : Log V S) (f : ℕ → V) (c : Cells V) → Simulates p f c → Alike (source_from K E s left room p f) (allocated_from K E s a left room p c)
  alike_from zero p f c h = record { outcome = refl; log = refl }
  alike_from (suc left) p f c h =
      ⊎_elim (λ e. on_both Alike (drive_full (full K E s room) (source_step K E s) left p f e) (drive_full (full K E s room) (allocated_step K E s a) left p c e) (record { outcome = refl; log = refl })) (λ e. on_both Alike (drive_step (full K E s room) (source_step K E s) left p f e) (drive_step (full K E s room) (allocated_step K E s a) left p c e) (node_alike K E (edge_moves l) p.node (after X n l) p f g (λ q w. source_from K E s left room q w) (λ q w. allocated_from K E s a left room q w) Alike (λ v q x y. record { outcome = refl; log = refl }) n l.main (matching (main_action l.main) (action n) (acc.ready.matches p.node h.within)) (acc.nodes p.node h.within) main under (λ f' cs b out len among q at. alike_from left q f' _ (arrive p.node b f' (record { cells = cs; moves = g.moves }) h.within (omega (arith, len, length_moves K l.ins c, h.wide)) among out q at)))) (cases_Bool (full K E s room p))
    where
      n : Node
      n = node_at s.nodes p.node

      l : Line
      l = line_of a p.node

      here : p.node < length a.lines
      here = omega (arith, fits.lines, h.within)

      g : Cells V
      g = move_all K l.ins c

      main : Agree K (back_main n l.main (after X n l)) f g.cells
      main = agree_moves K l.ins (back_main n l.main (after X n l)) f c (a.registers + a.slots) h.wide (all_to a l.ins (loc.line p.node here).ins) (λ i v e. h.agree i v (acc.least.solves p.node h.within (i, v) ∙ e))

      under : Under (length g.cells) (target l.main)
      under = target_under a.registers (length g.cells) l.main (omega (arith, length_moves K l.ins c, h.wide)) (loc.line p.node here).main

  -- at its start the machine holds what the equations of node 0 say
  started : (args : List V) → length args ≡ s.parameters → (h : S) (cells : List V) → a.registers + a.slots ≤ length cells → Simulates (start K E s 0 h) (given K E s args) (entered K E s a args cells)
  started args many h cells wide =
      let z = K.constant 0 in
      let c : Cells V = record { cells = write_all (arrival a) args cells; moves = 0 } in
      let long : a.registers + a.slots ≤ length c.cells = rw (length_place z (arrival a) args cells) wide in
      record {
        within = fits.some;
        wide = rw (length_moves K a.entry c) long;
        agree = agree_moves K a.entry (X 0) (given K E s args) c (a.registers + a.slots) long (all_to a a.entry loc.entry) (λ l v e.
            let from = a_parameter (back_moves a.entry (X 0)) (arrival a) s.parameters acc.entry l v e in
            sym (place_at z (arrival a) args cells v l from.1 (rw many from.0) (omega (arith, fits.slots))));
      }

pub runs_as_source : {V S : Type 0} (K : Arithmetic V) (E : Answers S V) (s : Source) (a : Allocation) (size : ℕ) (X : ℕ → ℕ × ℕ → Bool) → Fits s a → Located a → Accepted s a size X → SameRuns K E s a
runs_as_source K E s a size X fits loc acc budget room args many h cells wide =
    alike_from K E s a size X fits loc acc room budget (start K E s 0 h) (given K E s args) (entered K E s a args cells) (started K E s a size X fits loc acc room args many h cells wide)
