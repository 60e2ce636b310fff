-- Liveness: the temporaries whose value may still be read, for each node.
use Rattle.std.specs.Prelude.{◌≡◌, ℕ, ◌<◌, Bool, true, not, ◌&&◌, ◌||◌, List, length, Result, MatchResult, nat_eq, nat_le, slice_index}
use Rattle.refusal.specs.declared.Refusal.{Refusal}
use Rattle.refusal.specs.declared.Refusal.TheVariants.{Unset as UnsetTemporary}
use Rattle.sets.specs.Masks.{bit, count, greatest, First, any, names}
use Rattle.sets.specs.Least.{Least}
use Rattle.source.specs.Nodes.{result_of, operands, successors, node_at, AllSound}
use Rattle.source.specs.declared.heading.Heading.{Heading}
use Rattle.source.specs.declared.node.Node.{Node}

-- x is in the set of some successor of the node
abbrev pub out_of : {K : Type 0} → (ℕ → K → Bool) → Node → K → Bool
out_of X node x = any (λ m. X m x) (successors node)

-- the node reads v
abbrev pub reads : Node → ℕ → Bool
reads node v = any (nat_eq v) (operands node)

-- the node sets v
abbrev pub is_result : Node → ℕ → Bool
is_result node v = names (result_of node) v

-- live into the node: what it reads, and what is live out of it except its result
abbrev pub into : (ℕ → ℕ → Bool) → Node → ℕ → Bool
into X node v = reads node v || (out_of X node v && not (is_result node v))

-- the equations of liveness, one for each node
abbrev pub live_step : List Node → (ℕ → ℕ → Bool) → ℕ → ℕ → Bool
live_step nodes X n v = into X (node_at nodes n) v

-- L is the liveness of the nodes: the least solution of its equations
abbrev pub Liveness : List Node → (ℕ → ℕ → Bool) → Type 0
Liveness nodes L = Least (length nodes) (live_step nodes) L

-- the family that a row of words holds, a word for each node
abbrev pub live_sets : List ℕ → ℕ → ℕ → Bool
live_sets words n v = bit (slice_index words n) v

-- the greatest number of the temporaries below v that are live into one of n nodes
abbrev pub pressure : ℕ → (ℕ → ℕ → Bool) → ℕ → ℕ
pressure v L n = greatest (λ k. count v (L k)) n

-- the words hold the liveness, what is live into the first node is a parameter, and g is the pressure
pub record Ready (nodes : List Node) (parameters temporaries : ℕ) (words : List ℕ) (g : ℕ) : Type 0 where
  pub live : Liveness nodes (live_sets words)
  pub entry : (v : ℕ) → live_sets words 0 v ≡ true → v < parameters
  pub most : g ≡ pressure temporaries (live_sets words) (length nodes)

-- the words hold the liveness, and t is the lowest temporary live into the first node that is no parameter
pub record Unset (nodes : List Node) (parameters : ℕ) (words : List ℕ) (t : ℕ) : Type 0 where
  pub live : Liveness nodes (live_sets words)
  pub first : First (λ v. nat_le parameters v && live_sets words 0 v) t

-- the greatest number of temporaries live into one node, or the refusal that names the lowest one unset
abbrev pub Surveyed : List Node → ℕ → ℕ → List ℕ → Result ℕ Refusal → Type 0
Surveyed nodes parameters temporaries words r =
    MatchResult r (Ready nodes parameters temporaries words) (λ e. (t : ℕ) × (e ≡ UnsetTemporary t) × Unset nodes parameters words t)

-- nodes in range under the heading h, of which the words hold the liveness
pub record Loaded (h : Heading) (nodes : List Node) (words : List ℕ) : Type 0 where
  pub sound : AllSound h.temporaries nodes
  pub live : Liveness nodes (live_sets words)
  pub entry : (v : ℕ) → live_sets words 0 v ≡ true → v < h.parameters
