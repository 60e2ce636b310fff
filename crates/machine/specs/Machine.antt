-- The source machine and the allocated machine: one driver, over any kind of value and any host.
use Rattle.std.specs.Prelude.{ℕ, zero, suc, ◌+◌, Bool, true, false, cond, ◌&&◌, List, [], ◌∷◌, ◌++◌, map, length, Some, None, Option, ◌==◌, slice_index_or, slice_set}
use Rattle.source.specs.Nodes.{Action, const, mov, binary, call, branch, return, action, node_at, result_of, operands, successor}
use Rattle.source.specs.Reading.{Source}
use Rattle.source.specs.declared.node.Node.{Node}
use Rattle.allocation.specs.Allocations.{Line, Allocation, target, origins}
use Rattle.allocation.specs.declared.line.Move.{Move}
use Rattle.values.specs.Kinds.{Arithmetic}
use Rattle.values.specs.Hosts.{Answers}
use Rattle.machine.specs.declared.outcome.Outcome.{Outcome}
use Rattle.machine.specs.declared.outcome.Entry.{Entry}
use Rattle.std.specs.declared.ops.ControlFlow.{ControlFlow}
use Rattle.allocation.specs.Lines.{main_action, edge_moves, line_of, arrival}

-- whether an action, if there is one, asks the host
abbrev pub asks : Option Action → Bool
asks None = false
asks (Some (const k)) = false
asks (Some mov) = false
asks (Some (binary o)) = false
asks (Some (call h)) = true
asks (Some (branch c)) = false
asks (Some return) = false

-- what a machine holds besides its values: the node, the count of nodes passed, the transcript and the host's state
pub record Log (V S : Type 0) : Type 0 where
  pub node : ℕ
  pub count : ℕ
  pub transcript : List (Entry V)
  pub host : S

-- a run that is over, with what the machine then holds; M is what holds the values
pub record Ending (V S M : Type 0) : Type 0 where
  pub outcome : Outcome V
  pub log : Log V S
  pub memory : M

-- a node carried out: the machine goes on, or ends with a value
pub data Progress (V S M : Type 0) : Type 0 where
  goes : Log V S → M → Progress V S M
  ends : V → Log V S → M → Progress V S M

abbrev pub after : {V S M : Type 0} → Progress V S M → (Log V S → M → Ending V S M) → Ending V S M
after (goes p m) on = on p m
after (ends v p m) on = record { outcome = Outcome.Ended v; log = p; memory = m }

-- the rules of a run: spent, full, else the node is carried out; the number is what is left of the budget
abbrev pub drive : {V S M : Type 0} → (Log V S → Bool) → (Log V S → M → Progress V S M) → ℕ → Log V S → M → Ending V S M
drive full step zero p m = record { outcome = Outcome.Spent; log = p; memory = m }
drive full step (suc left) p m =
    elim (full p) [
      | true ↦ record { outcome = Outcome.Full; log = p; memory = m }
      | false ↦ after (step p m) (λ q w. drive full step left q w)
    ]

-- what an action comes to on the values of its operands: the value to set, the edge or the end, the entries and the host's state
pub record Effect (V S : Type 0) : Type 0 where
  pub value : V
  pub taken : ControlFlow V Bool
  pub told : List (Entry V)
  pub host : S

module _ {V : Type 0} (K : Arithmetic V) where
  abbrev pub nothing : V
  nothing = K.constant 0

  -- an action that sets a value and goes to next
  abbrev pub sets : {S : Type 0} → V → S → Effect V S
  sets x h = record { value = x; taken = ControlFlow.Continue true; told = []; host = h }

  abbrev pub first : List V → V
  first vs = slice_index_or vs 0 nothing

  abbrev pub second : List V → V
  second vs = slice_index_or vs 1 nothing

  -- what cell l holds; a missing cell holds constant 0
  abbrev pub read : List V → ℕ → V
  read cells l = slice_index_or cells l nothing

module _ {V S : Type 0} (K : Arithmetic V) (E : Answers S V) where
  abbrev pub asked : ℕ → V → V → S → Effect V S
  asked f a b h = record { value = E.answer h f a b; taken = ControlFlow.Continue true; told = record { function = f; first = a; second = b; answer = E.answer h f a b } ∷ []; host = E.next h f a b }

  -- a `skip`, which sets nothing, has no result location; what a branch and an end would set, nobody looks at either
  abbrev pub effect : Option Action → List V → S → Effect V S
  effect None vs h = sets K (nothing K) h
  effect (Some (const k)) vs h = sets K (K.constant k) h
  effect (Some mov) vs h = sets K (first K vs) h
  effect (Some (binary o)) vs h = sets K (K.operate o (first K vs) (second K vs)) h
  effect (Some (call f)) vs h = asked f (first K vs) (second K vs) h
  effect (Some (branch c)) vs h = record { value = nothing K; taken = ControlFlow.Continue (K.test c (first K vs) (second K vs)); told = []; host = h }
  effect (Some return) vs h = record { value = nothing K; taken = ControlFlow.Break (first K vs); told = []; host = h }

-- one node more, after which the machine stands at node n
abbrev pub passed : {V S : Type 0} → ℕ → List (Entry V) → S → Log V S → Log V S
passed n told h p = record { node = n; count = p.count + 1; transcript = p.transcript ++ told; host = h }

-- a node carried out: it ends with memory m, or takes an edge, after which the memory is `then edge`
abbrev pub carried : {V S M : Type 0} → Node → ControlFlow V Bool → List (Entry V) → S → Log V S → M → (Bool → M) → Progress V S M
carried n (ControlFlow.Continue e) told h p m then = goes (passed (successor n e) told h p) (then e)
carried n (ControlFlow.Break v) told h p m then = ends v (passed p.node told h p) m

-- a value for each temporary, with temporary d set, if there is one
abbrev pub assign : {V : Type 0} → Option ℕ → V → (ℕ → V) → ℕ → V
assign None x f = f
assign (Some d) x f = λ v. cond (v == d) x (f v)

-- cells, with that of location l set, if there is one
abbrev pub store : {V : Type 0} → Option ℕ → V → List V → List V
store None x cells = cells
store (Some l) x cells = slice_set cells l x

-- values written to the cells from location l on
abbrev pub write_all : {V : Type 0} → ℕ → List V → List V → List V
write_all l [] cells = cells
write_all l (x ∷ xs) cells = write_all (suc l) xs (slice_set cells l x)

-- the cells of a frame, and the moves made on them
pub record Cells (V : Type 0) : Type 0 where
  pub cells : List V
  pub moves : ℕ

abbrev pub move_one : {V : Type 0} → Arithmetic V → Move → Cells V → Cells V
move_one K m c = record { cells = slice_set c.cells m.to (read K c.cells m.from); moves = c.moves + 1 }

abbrev pub move_all : {V : Type 0} → Arithmetic V → List Move → Cells V → Cells V
move_all K [] c = c
move_all K (m ∷ ms) c = move_all K ms (move_one K m c)

module _ {V S : Type 0} (K : Arithmetic V) (E : Answers S V) where
  -- a node's main line and the moves of the edge taken, on the cells after its `in` moves
  abbrev pub carry_line : Node → Line → Log V S → Cells V → Progress V S (Cells V)
  carry_line n l p c =
      let x = effect K E (main_action l.main) (map (read K c.cells) (origins l.main)) p.host in
      carried n x.taken x.told x.host p c (λ e. move_all K (edge_moves l e) (record { cells = store (target l.main) x.value c.cells; moves = c.moves }))

  module _ (s : Source) where
    -- the node is a call and the transcript is as long as the caller's list
    abbrev pub full : ℕ → Log V S → Bool
    full room p = asks (Some (action (node_at s.nodes p.node))) && length p.transcript == room

    abbrev pub source_step : Log V S → (ℕ → V) → Progress V S (ℕ → V)
    source_step p f =
        let n = node_at s.nodes p.node in
        let x = effect K E (Some (action n)) (map f (operands n)) p.host in
        carried n x.taken x.told x.host p f (λ e. assign (result_of n) x.value f)

    -- the source machine from any node, with a value for each temporary
    abbrev pub source_from : ℕ → ℕ → Log V S → (ℕ → V) → Ending V S (ℕ → V)
    source_from budget room p f = drive (full room) source_step budget p f

    -- at a node, with nothing passed yet
    abbrev pub start : ℕ → S → Log V S
    start n h = record { node = n; count = 0; transcript = []; host = h }

    -- parameter i holds argument i, any other temporary constant 0
    abbrev pub given : List V → ℕ → V
    given args v = slice_index_or args v (nothing K)

    abbrev pub source_run : ℕ → ℕ → List V → S → Ending V S (ℕ → V)
    source_run budget room args h = source_from budget room (start 0 h) (given args)

    module _ (a : Allocation) where
      abbrev pub allocated_step : Log V S → Cells V → Progress V S (Cells V)
      allocated_step p c =
          let l = line_of a p.node in
          carry_line (node_at s.nodes p.node) l p (move_all K l.ins c)

      -- the allocated machine from any node, with any cells
      abbrev pub allocated_from : ℕ → ℕ → Log V S → Cells V → Ending V S (Cells V)
      allocated_from budget room p c = drive (full room) allocated_step budget p c

      -- the arguments in their slots, then the entry moves
      abbrev pub entered : List V → List V → Cells V
      entered args cells = move_all K a.entry (record { cells = write_all (arrival a) args cells; moves = 0 })

      abbrev pub allocated_run : ℕ → ℕ → List V → S → List V → Ending V S (Cells V)
      allocated_run budget room args h cells = allocated_from budget room (start 0 h) (entered args cells)
