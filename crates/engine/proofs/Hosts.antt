-- What a host has come to is told by the transcript: so two runs with one transcript leave the host in one state.
use Rattle.std.proofs.Common.{◌≡◌, ℕ, zero, suc, Bool, true, false, List, [], ◌∷◌, ◌++◌, Some, None, Option, sym, refl, ap, ◌∙◌}
use Rattle.source.specs.Nodes.{Action, const, mov, binary, call, branch, return, action, node_at, successor}
use Rattle.source.specs.Reading.{Source}
use Rattle.source.specs.declared.node.Node.{Node}
use Rattle.allocation.specs.Allocations.{Allocation}
use Rattle.allocation.specs.Lines.{main_action, line_of}
use Rattle.values.specs.Kinds.{Arithmetic}
use Rattle.values.specs.Hosts.{Answers}
use Rattle.machine.specs.declared.outcome.Entry.{Entry}
use Rattle.std.specs.declared.ops.ControlFlow.{ControlFlow}
use Rattle.machine.specs.declared.outcome.Outcome.{Outcome}
use Rattle.machine.specs.Machine.{Log, Ending, Progress, goes, ends, after, drive, effect, passed, carried, full, source_step, source_run, start, given, allocated_step, allocated_run, entered}

module _ {V S : Type 0} (K : Arithmetic V) (E : Answers S V) where
  abbrev either : {M : Type 0} → Ending V S M → Ending V S M → Bool → Ending V S M
  either x y b = elim b [ true ↦ x | false ↦ y ]

  -- the state after the calls of a transcript
  abbrev pub tells : S → List (Entry V) → S
  tells h [] = h
  tells h (e ∷ es) = tells (E.next h e.function e.first e.second) es

  tells_append : (h : S) (xs ys : List (Entry V)) → tells h (xs ++ ys) ≡ tells (tells h xs) ys
  tells_append h [] ys = refl
  tells_append h (x ∷ xs) ys = tells_append (E.next h x.function x.first x.second) xs ys

  effect_tells : (o : Option Action) (vs : List V) (h : S) → (effect K E o vs h).host ≡ tells h (effect K E o vs h).told
  effect_tells None vs h = refl
  effect_tells (Some (const k)) vs h = refl
  effect_tells (Some mov) vs h = refl
  effect_tells (Some (binary o)) vs h = refl
  effect_tells (Some (call f)) vs h = refl
  effect_tells (Some (branch c)) vs h = refl
  effect_tells (Some return) vs h = refl

  module _ (h₀ : S) where
    -- the log's host is what its transcript tells
    abbrev Told : Log V S → Type 0
    Told p = p.host ≡ tells h₀ p.transcript

    abbrev Keeps : {M : Type 0} → Progress V S M → Type 0
    Keeps (goes q m) = Told q
    Keeps (ends v q m) = Told q

    passed_told : (n : ℕ) (told : List (Entry V)) (h : S) (p : Log V S) → Told p → h ≡ tells p.host told → Told (passed n told h p)
    passed_told n told h p is e = e ∙ ap (λ x. tells x told) is ∙ sym (tells_append h₀ p.transcript told)

    carried_told : {M : Type 0} (n : Node) (t : ControlFlow V Bool) (told : List (Entry V)) (h : S) (p : Log V S) (m : M) (then : Bool → M) → Told p → h ≡ tells p.host told → Keeps (carried n t told h p m then)
    carried_told n (ControlFlow.Continue b) told h p m then is e = passed_told (successor n b) told h p is e
    carried_told n (ControlFlow.Break v) told h p m then is e = passed_told p.node told h p is e

    after_told : {M : Type 0} (g : Progress V S M) (on : Log V S → M → Ending V S M) → Keeps g → ((q : Log V S) (m : M) → Told q → Told (on q m).log) → Told (after g on).log
    after_told (goes q m) on k next = next q m k
    after_told (ends v q m) on k next = k

    drive_told : {M : Type 0} (stops : Log V S → Bool) (step : Log V S → M → Progress V S M) → ((p : Log V S) (m : M) → Told p → Keeps (step p m)) → (left : ℕ) (p : Log V S) (m : M) → Told p → Told (drive stops step left p m).log
    drive_told stops step keeps zero p m is = is
    drive_told {M} stops step keeps (suc left) p m is = go (stops p) (after_told (step p m) (λ q w. drive stops step left q w) (keeps p m is) (λ q w k. drive_told stops step keeps left q w k))
      where
        go : (b : Bool) → Told (after (step p m) (λ q w. drive stops step left q w)).log
            → Told (either (record { outcome = Outcome.Full; log = p; memory = m }) (after (step p m) (λ q w. drive stops step left q w)) b).log
        go true k = is
        go false k = k

    -- both machines, from their start
    pub source_told : (s : Source) (budget room : ℕ) (args : List V) → Told (source_run K E s budget room args h₀).log
    source_told s budget room args =
        drive_told (full K E s room) (source_step K E s)
        (λ p f is. carried_told (node_at s.nodes p.node) _ _ _ p f _ is (effect_tells (Some (action (node_at s.nodes p.node))) _ p.host))
        budget (start K E s 0 h₀) (given K E s args) refl

    pub allocated_told : (s : Source) (a : Allocation) (budget room : ℕ) (args cells : List V) → Told (allocated_run K E s a budget room args h₀ cells).log
    allocated_told s a budget room args cells =
        drive_told (full K E s room) (allocated_step K E s a)
        (λ p c is. carried_told (node_at s.nodes p.node) _ _ _ p _ _ is (effect_tells (main_action (line_of a p.node).main) _ p.host))
        budget (start K E s 0 h₀) (entered K E s a args cells) refl
