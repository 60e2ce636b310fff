-- The questions that a node and its main line, and the start, are asked.
use Rattle.std.specs.Prelude.{◌≡◌, ℕ, ◌+◌, ◌<◌, Bool, true, false, cond, not, ◌&&◌, ◌⊎◌, List, [], ◌∷◌, Some, None, Option, MatchOption, ◌==◌, nat_lt}
use Rattle.sets.specs.Masks.{names}
use Rattle.allocation.specs.Lines.{arrival, main_action}
use Rattle.refusal.specs.declared.Refusal.{Refusal}
use Rattle.refusal.specs.declared.Refusal.TheVariants.{Elsewhere, Overwritten, NeverSet, Foreign}
use Rattle.source.specs.Nodes.{Action, const, mov, binary, call, branch, return, action, result_of}
use Rattle.source.specs.Reading.{Source}
use Rattle.source.specs.declared.node.Node.{Node}
use Rattle.allocation.specs.Allocations.{Allocation, target}
use Rattle.allocation.specs.declared.line.Main.{Main}

-- `const` and operations
abbrev pub computes : Action → Bool
computes (const k) = true
computes mov = false
computes (binary o) = true
computes (call h) = false
computes (branch c) = false
computes return = false

-- where `skip` may stand: at `mov`, `const` and operations
abbrev pub skippable : Action → Bool
skippable (const k) = true
skippable mov = true
skippable (binary o) = true
skippable (call h) = false
skippable (branch c) = false
skippable return = false

-- 32: the main line has its node's word and its constant, host function or condition, or is a `skip` that may stand there
abbrev pub Matches : Node → Main → Type 0
Matches node main = MatchOption (main_action main) (skippable (action node) ≡ true) (λ act. act ≡ action node)

-- a question over a set: the equations that it forbids, and the refusal that names one
pub record Question : Type 0 where
  pub forbids : ℕ × ℕ → Bool
  pub refusal : ℕ × ℕ → Refusal

-- 33: the result d elsewhere than at the result location m
abbrev pub elsewhere : Option ℕ → ℕ → ℕ × ℕ → Bool
elsewhere d m e = names d e.1 && not (e.0 == m)

-- 34: a temporary other than d at the result location m
abbrev pub overwritten : Option ℕ → ℕ → ℕ × ℕ → Bool
overwritten d m e = e.0 == m && not (names d e.1)

-- 35: the result d, where it is never set
abbrev pub never_set : Option ℕ → ℕ × ℕ → Bool
never_set d e = names d e.1

-- 36: all but a parameter i below p at location first + i
abbrev pub foreign : ℕ → ℕ → ℕ × ℕ → Bool
foreign first p e = not (nat_lt e.1 p && e.0 == first + e.1)

-- the questions of node n with the result d, over the set after it: 33 and 34 where its main line has a result location
abbrev pub questions_at : ℕ → Option ℕ → ℕ → List Question
questions_at n d m = record { forbids = elsewhere d m; refusal = λ e. Elsewhere n e.1 e.0 } ∷ record { forbids = overwritten d m; refusal = λ e. Overwritten n e.1 e.0 } ∷ []

-- and 35 where there is none, at `const` and operations
abbrev pub questions_of : ℕ → Node → Option ℕ → List Question
questions_of n node (Some m) = questions_at n (result_of node) m
questions_of n node None = cond (computes (action node)) (record { forbids = never_set (result_of node); refusal = λ e. NeverSet n e.1 e.0 } ∷ []) []

abbrev pub questions : ℕ → Node → Main → List Question
questions n node main = questions_of n node (target main)

-- the question of the set before the entry moves
abbrev pub foreign_question : ℕ → ℕ → Question
foreign_question first p = record { forbids = foreign first p; refusal = λ e. Foreign e.1 e.0 }

abbrev pub entry_question : Source → Allocation → Question
entry_question s a = foreign_question (arrival a) s.parameters

-- no equation of E passes the test
abbrev pub Clear : (ℕ × ℕ → Bool) → (ℕ × ℕ → Bool) → Type 0
Clear E p = (e : ℕ × ℕ) → (E e && p e) ≡ false

-- e is the first equation that passes the test p: of the lowest location, the lowest temporary
pub record FirstEquation (p : ℕ × ℕ → Bool) (e : ℕ × ℕ) : Type 0 where
  pub here : p e ≡ true
  pub before : (d : ℕ × ℕ) → d.0 < e.0 → p d ≡ false
  pub lower : (v : ℕ) → v < e.1 → p (e.0, v) ≡ false

-- the question says no to E: r names the first equation that it forbids
pub record Fails (q : Question) (E : ℕ × ℕ → Bool) (r : Refusal) : Type 0 where
  pub equation : ℕ × ℕ
  pub first : FirstEquation (λ e. E e && q.forbids e) equation
  pub is : r ≡ q.refusal equation

-- every question says yes to E
abbrev pub Passed : List Question → (ℕ × ℕ → Bool) → Type 0
Passed [] E = Unit {0}
Passed (q ∷ qs) E = Clear E q.forbids × Passed qs E

-- the first question that says no to E refuses by r
abbrev pub Failed : List Question → (ℕ × ℕ → Bool) → Refusal → Type 0
Failed [] E r = ⊥
Failed (q ∷ qs) E r = Fails q E r ⊎ (Clear E q.forbids × Failed qs E r)
