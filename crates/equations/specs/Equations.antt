-- Equations: e says that location e .0 and temporary e .1 hold the same value. How sets of them are taken back over
-- moves, main lines and nodes, and the least sets before all nodes.
use Rattle.std.specs.Prelude.{ℕ, ◌+◌, ◌*◌, Bool, not, ◌&&◌, ◌||◌, List, [], ◌∷◌, length, Some, None, Option, ◌==◌, nat_lt, slice_index}
use Rattle.allocation.specs.Lines.{edge_moves, line_of}
use Rattle.sets.specs.Masks.{bit, any, names}
use Rattle.sets.specs.Least.{Least}
use Rattle.source.specs.Nodes.{operands, edges, successor, node_at}
use Rattle.source.specs.Reading.{Source}
use Rattle.source.specs.declared.node.Node.{Node}
use Rattle.source.specs.declared.node.Node.TheVariants.{Const, Mov, Binary, Call, Branch, Return}
use Rattle.allocation.specs.Allocations.{Line, Allocation, target, origins}
use Rattle.allocation.specs.declared.line.Move.{Move}
use Rattle.allocation.specs.declared.line.Main.{Main}

-- back over a move: each (v, destination) becomes (v, origin)
unfoldable pub back_move : Move → (ℕ × ℕ → Bool) → ℕ × ℕ → Bool
back_move m E e = (E e && not (e.0 == m.to)) || (e.0 == m.from && E (m.to, e.1))

-- back over moves made in order: the last one first
unfoldable pub back_moves : List Move → (ℕ × ℕ → Bool) → ℕ × ℕ → Bool
back_moves [] E = E
back_moves (m ∷ ms) E = back_move m (back_moves ms E)

-- each (d, l) becomes (a, l)
unfoldable pub renamed : ℕ → ℕ → (ℕ × ℕ → Bool) → ℕ × ℕ → Bool
renamed d a E e = (E e && not (e.1 == d)) || (e.1 == a && E (e.0, d))

-- each equation naming the temporary d or the location m is dropped
unfoldable pub dropped : Option ℕ → Option ℕ → (ℕ × ℕ → Bool) → ℕ × ℕ → Bool
dropped d m E e = (E e && not (names d e.1)) && not (names m e.0)

-- each operand is added, with its register
unfoldable pub used : List ℕ → List ℕ → (ℕ × ℕ → Bool) → ℕ × ℕ → Bool
used [] rs E e = E e
used (v ∷ vs) [] E e = E e
used (v ∷ vs) (r ∷ rs) E e = (e.0 == r && e.1 == v) || used vs rs E e

-- back over what the main line of a node sets: the result of a `mov`, whose main line is `skip`, becomes its origin;
-- any other result is dropped, and what is said of the result location
abbrev pub unset : Node → Main → (ℕ × ℕ → Bool) → ℕ × ℕ → Bool
unset (Const d k next) main E = dropped (Some d) (target main) E
unset (Mov d a next) main E = renamed d a E
unset (Binary o d a b next) main E = dropped (Some d) (target main) E
unset (Call d h a b next) main E = dropped (Some d) (target main) E
unset (Branch c a b taken other) main E = dropped None (target main) E
unset (Return a) main E = dropped None (target main) E

-- back over the main line of a node
abbrev pub back_main : Node → Main → (ℕ × ℕ → Bool) → ℕ × ℕ → Bool
back_main node main E = used (operands node) (origins main) (unset node main E)

-- Out: the union, over the node's edges, of the successor's set taken back over the edge's moves
unfoldable pub after : (ℕ → ℕ × ℕ → Bool) → Node → Line → ℕ × ℕ → Bool
after X node line e = any (λ b. back_moves (edge_moves line b) (X (successor node b)) e) (edges node)

-- In: the set before the node's `in` moves
abbrev pub before : (ℕ → ℕ × ℕ → Bool) → Node → Line → ℕ × ℕ → Bool
before X node line = back_moves line.ins (back_main node line.main (after X node line))

-- the sets before all nodes, by themselves
abbrev pub equation_step : Source → Allocation → (ℕ → ℕ × ℕ → Bool) → ℕ → ℕ × ℕ → Bool
equation_step s a X n = before X (node_at s.nodes n) (line_of a n)

-- X has the sets before all nodes: the least that solve their equations, unreachable nodes too
abbrev pub Equations : Source → Allocation → (ℕ → ℕ × ℕ → Bool) → Type 0
Equations s a X = Least (length s.nodes) (equation_step s a) X

-- the set that a row of words holds: at bit v of word l, whether (v, l) is in it
unfoldable pub held : List ℕ → ℕ × ℕ → Bool
held words e = bit (slice_index words e.0) e.1

-- the sets that work memory holds: at bit v of word 64 * n + l, for l below 64, whether (v, l) is in that of node n
unfoldable pub memory_sets : List ℕ → ℕ → ℕ × ℕ → Bool
memory_sets words n e = nat_lt e.0 64 && bit (slice_index words (64 * n + e.0)) e.1
