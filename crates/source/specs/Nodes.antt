-- What a node sets, reads and goes on to.
use Rattle.std.specs.Prelude.{◌≡◌, ℕ, ◌^◌, ◌<◌, Bool, true, false, cond, ◌&&◌, List, [], ◌∷◌, map, length, Some, None, Option, nat_lt, slice_index_or}
use Rattle.source.specs.declared.node.Operation.{Operation}
use Rattle.source.specs.declared.node.Condition.{Condition}
use Rattle.source.specs.declared.node.Node.{Node}
use Rattle.source.specs.declared.node.Node.TheVariants.{Const, Mov, Binary, Call, Branch, Return}

-- the temporary that the node sets, if any
abbrev pub result_of : Node → Option ℕ
result_of (Const d k next) = Some d
result_of (Mov d a next) = Some d
result_of (Binary o d a b next) = Some d
result_of (Call d h a b next) = Some d
result_of (Branch c a b taken other) = None
result_of (Return a) = None

-- the temporaries that the node reads, in order
abbrev pub operands : Node → List ℕ
operands (Const d k next) = []
operands (Mov d a next) = a ∷ []
operands (Binary o d a b next) = a ∷ b ∷ []
operands (Call d h a b next) = a ∷ b ∷ []
operands (Branch c a b taken other) = a ∷ b ∷ []
operands (Return a) = a ∷ []

-- the edges that leave the node: true is that to next or yes, false that to no
abbrev pub edges : Node → List Bool
edges (Const d k next) = true ∷ []
edges (Mov d a next) = true ∷ []
edges (Binary o d a b next) = true ∷ []
edges (Call d h a b next) = true ∷ []
edges (Branch c a b taken other) = true ∷ false ∷ []
edges (Return a) = []

-- the node to which an edge goes
abbrev pub successor : Node → Bool → ℕ
successor (Const d k next) e = next
successor (Mov d a next) e = next
successor (Binary o d a b next) e = next
successor (Call d h a b next) e = next
successor (Branch c a b taken other) e = cond e taken other
successor (Return a) e = 0

-- the nodes to which control may go on
abbrev pub successors : Node → List ℕ
successors node = map (successor node) (edges node)

-- what a node does, without the temporaries and the nodes that it names
pub data Action : Type 0 where
  const : ℕ → Action
  mov : Action
  binary : Operation → Action
  call : ℕ → Action
  branch : Condition → Action
  return : Action

abbrev pub action : Node → Action
action (Const d k next) = const k
action (Mov d a next) = mov
action (Binary o d a b next) = binary o
action (Call d h a b next) = call h
action (Branch c a b taken other) = branch c
action (Return a) = return

-- the numbers of the node are in range, in a source with v temporaries and n nodes
abbrev pub Sound : ℕ → ℕ → Node → Type 0
Sound v n (Const d k next) = (d < v) × (k < 2 ^ 32) × (next < n)
Sound v n (Mov d a next) = (d < v) × (a < v) × (next < n)
Sound v n (Binary o d a b next) = (d < v) × (a < v) × (b < v) × (next < n)
Sound v n (Call d h a b next) = (d < v) × (h < 256) × (a < v) × (b < v) × (next < n)
Sound v n (Branch c a b taken other) = (a < v) × (b < v) × (taken < n) × (other < n)
Sound v n (Return a) = a < v

-- the same as a test, which the invariant of a type can state
abbrev pub sound : ℕ → ℕ → Node → Bool
sound v n (Const d k next) = nat_lt d v && (nat_lt k (2 ^ 32) && nat_lt next n)
sound v n (Mov d a next) = nat_lt d v && (nat_lt a v && nat_lt next n)
sound v n (Binary o d a b next) = nat_lt d v && (nat_lt a v && (nat_lt b v && nat_lt next n))
sound v n (Call d h a b next) = nat_lt d v && (nat_lt h 256 && (nat_lt a v && (nat_lt b v && nat_lt next n)))
sound v n (Branch c a b taken other) = nat_lt a v && (nat_lt b v && (nat_lt taken n && nat_lt other n))
sound v n (Return a) = nat_lt a v

-- node n of a list of nodes
abbrev pub node_at : List Node → ℕ → Node
node_at nodes n = slice_index_or nodes n (Const 0 0 0)

-- every node is sound, in a source with v temporaries
abbrev pub AllSound : ℕ → List Node → Type 0
AllSound v nodes = (n : ℕ) → n < length nodes → sound v (length nodes) (node_at nodes n) ≡ true
