-- How an allocation text is read: the allocation, or the first question that says no.
use Rattle.std.specs.Prelude.{ℕ, ◌+◌, Bool, cond, List, [], ◌∷◌, ◌++◌, map, length, Some, None, Ok, Err, Option, Result, ◌==◌, nat_lt}
use Rattle.text.specs.Parts.{lines_of, fields_of, sized}
use Rattle.text.specs.Fields.{shape_of}
use Rattle.text.specs.declared.fields.Fault.{Fault}
use Rattle.text.specs.declared.fields.Fault.TheVariants as fault
use Rattle.refusal.specs.declared.Refusal.{Refusal}
use Rattle.refusal.specs.declared.Refusal.TheVariants.{AllocationSize, AllocationHeading, AllocationWord, AllocationField, OutOfOrder, TooManyMoves, MissingNodes}
use Rattle.allocation.specs.declared.heading.Heading.{Heading}
use Rattle.allocation.specs.declared.line.Move.{Move}
use Rattle.allocation.specs.declared.line.Main.{Main}
use Rattle.allocation.specs.declared.line.Main.TheVariants.{Skip}
use Rattle.allocation.specs.declared.words.Edge.{Edge}
use Rattle.allocation.specs.declared.words.Edge.TheVariants.{Entry, In, Out, Alt}
use Rattle.allocation.specs.declared.item.Item.{Item}
use Rattle.allocation.specs.declared.item.Item.TheVariants as item
use Rattle.reading.specs.declared.stage.Stage.{Stage}
use Rattle.reading.specs.declared.stage.Stage.TheVariants.{Start, Before, Plain, Branch, Alternate, Return}
use Rattle.allocation.specs.Headings.{heading_of}
use Rattle.allocation.specs.Items.{item_of}
use Rattle.reading.specs.Stages.{entry_stands, out_stands, alt_stands, main_stage}
use Rattle.allocation.specs.Allocations.{Line, Allocation}

-- what is read so far: the entry moves, the lines of the nodes that are done, that of the next one, and the count of moves
pub record State : Type 0 where
  pub heading : Heading
  pub stage : Stage
  pub entry : List Move
  pub done : List Line
  pub line : Line
  pub moves : ℕ

-- a line of which only the `in` moves are read
abbrev pub begun : List Move → Line
begun ins = record { ins = ins; main = Skip; outs = []; alts = [] }

abbrev pub fresh : Heading → State
fresh h = record { heading = h; stage = Start; entry = []; done = []; line = begun []; moves = 0 }

-- the lines that are done when the next node's begins
abbrev pub closed : Stage → List Line → Line → List Line
closed Start done line = done
closed Before done line = done
closed Plain done line = done ++ line ∷ []
closed Branch done line = done ++ line ∷ []
closed Alternate done line = done ++ line ∷ []
closed Return done line = done ++ line ∷ []

-- the `in` moves of a node whose main line is still to come
abbrev pub pending : Stage → Line → List Move
pending Start line = []
pending Before line = line.ins
pending Plain line = []
pending Branch line = []
pending Alternate line = []
pending Return line = []

-- the next node is begun, if it is not begun already
abbrev pub opened : State → State
opened st = record { heading = st.heading; stage = Before; entry = st.entry; done = closed st.stage st.done st.line; line = begun (pending st.stage st.line); moves = st.moves }

abbrev pub turned : State → State
turned st = record { heading = st.heading; stage = Alternate; entry = st.entry; done = st.done; line = st.line; moves = st.moves }

-- a move goes where the stage says
abbrev pub entry_with : Stage → List Move → Move → List Move
entry_with Start entry m = entry ++ m ∷ []
entry_with Before entry m = entry
entry_with Plain entry m = entry
entry_with Branch entry m = entry
entry_with Alternate entry m = entry
entry_with Return entry m = entry

abbrev pub with_in : Line → Move → Line
with_in l m = record { ins = l.ins ++ m ∷ []; main = l.main; outs = l.outs; alts = l.alts }

abbrev pub with_out : Line → Move → Line
with_out l m = record { ins = l.ins; main = l.main; outs = l.outs ++ m ∷ []; alts = l.alts }

abbrev pub with_alt : Line → Move → Line
with_alt l m = record { ins = l.ins; main = l.main; outs = l.outs; alts = l.alts ++ m ∷ [] }

abbrev pub line_with : Stage → Line → Move → Line
line_with Start l m = l
line_with Before l m = with_in l m
line_with Plain l m = with_out l m
line_with Branch l m = with_out l m
line_with Alternate l m = with_alt l m
line_with Return l m = with_out l m

abbrev pub with_move : State → Move → State
with_move st m = record { heading = st.heading; stage = st.stage; entry = entry_with st.stage st.entry m; done = st.done; line = line_with st.stage st.line m; moves = st.moves + 1 }

abbrev pub with_main : State → Main → State
with_main st m = record { heading = st.heading; stage = main_stage m; entry = st.entry; done = st.done; line = record { ins = st.line.ins; main = m; outs = []; alts = [] }; moves = st.moves }

-- go on with a value that is there
abbrev pub and_go : {A B : Type 0} → Result A Refusal → (A → Result B Refusal) → Result B Refusal
and_go (Ok a) f = f a
and_go (Err e) f = Err e

abbrev pub if_stands : ℕ → Bool → State → Result State Refusal
if_stands k test st = cond test (Ok st) (Err (OutOfOrder k))

-- the text has n nodes: line k begins another one, or goes on with one
abbrev pub next_node : ℕ → ℕ → State → Result State Refusal
next_node n k st = if_stands k (nat_lt (length (opened st).done) n) (opened st)

-- may a move with this word stand in line k?
abbrev pub stand : ℕ → ℕ → Edge → State → Result State Refusal
stand n k Entry st = if_stands k (entry_stands st.stage) st
stand n k In st = next_node n k st
stand n k Out st = if_stands k (out_stands st.stage) st
stand n k Alt st = if_stands k (alt_stands st.stage) (turned st)

-- the 1,025th move is refused
abbrev pub with_room : ℕ → Move → State → Result State Refusal
with_room k m st = cond (nat_lt st.moves 1024) (Ok (with_move st m)) (Err (TooManyMoves k))

abbrev pub take_item : ℕ → ℕ → State → Item → Result State Refusal
take_item n k st (item.Move e m) = and_go (stand n k e st) (with_room k m)
take_item n k st (item.Main m) = and_go (next_node n k st) (λ t. Ok (with_main t m))

-- a fault of line k
abbrev pub refused : ℕ → Fault → Refusal
refused k fault.Word = AllocationWord k
refused k fault.Field = AllocationField k

abbrev pub take_line : ℕ → ℕ → State → Result Item Fault → Result State Refusal
take_line n k st (Ok i) = take_item n k st i
take_line n k st (Err f) = Err (refused k f)

-- line k, by its fields
unfoldable pub one_line : ℕ → ℕ → State → List (List ℕ) → Result State Refusal
one_line n k st fs = take_line n k st (item_of st.heading fs)

abbrev pub whole : State → Allocation
whole st = record { registers = st.heading.registers; slots = st.heading.slots; entry = st.entry; lines = st.done }

-- at the end there are n main lines
abbrev pub finish : ℕ → ℕ → State → Result Allocation Refusal
finish n k st = cond (length (opened st).done == n) (Ok (whole (opened st))) (Err (MissingNodes k))

-- the lines from the k-th on, by their fields; each passes its questions before the next
unfoldable pub run : ℕ → List (List (List ℕ)) → State → ℕ → Result Allocation Refusal
run n [] st k = finish n k st
run n (fs ∷ rows) st k = and_go (one_line n k st fs) (λ t. run n rows t (k + 1))

abbrev pub started : ℕ → List (List (List ℕ)) → Option Heading → Result Allocation Refusal
started n rows None = Err AllocationHeading
started n rows (Some h) = run n rows (fresh h) 2

abbrev pub headed : ℕ → ℕ → List (List (List ℕ)) → Result Allocation Refusal
headed p n [] = Err AllocationHeading
headed p n (fs ∷ rows) = started n rows (heading_of p n (map shape_of fs))

-- a whole text, for a source with p parameters and n nodes
unfoldable pub read_allocation : ℕ → ℕ → List ℕ → Result Allocation Refusal
read_allocation p n bs = cond (sized bs) (headed p n (map fields_of (lines_of bs))) (Err AllocationSize)
