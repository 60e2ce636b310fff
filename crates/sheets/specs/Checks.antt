-- The worked allocations, and what a check says of them.
use Rattle.std.specs.Prelude.{◌≡◌, ℕ, ◌*◌, ◌≤◌, Bool, ◌&&◌, List, [], ◌∷◌, length, codes, ◌==◌}
use Rattle.sets.specs.Masks.{any}
use Rattle.refusal.specs.declared.Refusal.{Refusal}
use Rattle.source.specs.Reading.{Source}
use Rattle.source.specs.declared.node.Operation.TheVariants.{Add, Sub}
use Rattle.source.specs.declared.node.Condition.TheVariants.{Lt}
use Rattle.source.specs.declared.node.Node.TheVariants as node
use Rattle.allocation.specs.Allocations.{Line, Allocation}
use Rattle.allocation.specs.declared.line.Move.{Move}
use Rattle.allocation.specs.declared.line.Main.{Main}
use Rattle.allocation.specs.declared.line.Main.TheVariants.{Skip, Const, Binary, Call, Branch, Return}
use Rattle.equations.specs.Equations.{Equations}
use Rattle.equations.specs.Verdict.{Accepted, Refused}

-- a move to the first location from the second one; with 4 registers, location 4 is s0 and 5 is s1
abbrev pub move : ℕ → ℕ → Move
move to from = record { to = to; from = from }

-- a line with these `in`, `out` and `alt` moves round its main line
abbrev pub line : List Move → Main → List Move → List Move → Line
line ins main outs alts = record { ins = ins; main = main; outs = outs; alts = alts }

-- the lines of the worked allocation of the worked source, with the given entry moves and main line of node 0
abbrev pub worked : List Move → Main → Allocation
worked entry main = record {
  registers = 4;
  slots = 4;
  entry = entry;
  lines = line (move 2 4 ∷ []) main [] [] ∷ line [] Skip [] [] ∷ line (move 3 4 ∷ []) (Branch Lt 0 3) [] [] ∷ line [] (Call 0 7 0 1) [] [] ∷ line [] (Return 0) [] [] ∷ [];
}

abbrev pub allocation_b : Allocation
allocation_b = worked (move 1 5 ∷ []) (Binary Add 0 2 1)

abbrev pub text_b : List ℕ
text_b = codes "alloc\t4\t4\t5\nentry\tr1\ts1\nin\tr2\ts0\nadd\tr0\tr2\tr1\nskip\nin\tr3\ts0\nbr\tlt\tr0\tr3\ncall\tr0\t7\tr0\tr1\nret\tr0\n"

-- a source with a loop, and its allocation
abbrev pub source_c : Source
source_c = record { parameters = 1; temporaries = 2; nodes = node.Const 1 1 1 ∷ node.Binary Sub 0 0 1 2 ∷ node.Branch Lt 1 0 1 3 ∷ node.Return 0 ∷ [] }

abbrev pub allocation_c : Allocation
allocation_c = record {
  registers = 4;
  slots = 2;
  entry = move 0 4 ∷ [];
  lines = line [] (Const 1 1) [] [] ∷ line [] (Binary Sub 0 0 1) [] [] ∷ line [] (Branch Lt 1 0) (move 1 0 ∷ []) [] ∷ line [] (Return 0) [] [] ∷ [];
}

abbrev pub source_text_c : List ℕ
source_text_c = codes "source\t1\t2\t4\nconst\t1\t1\t1\nsub\t0\t0\t1\t2\nbr\tlt\t1\t0\t1\t3\nret\t0\n"

abbrev pub text_c : List ℕ
text_c = codes "alloc\t4\t2\t4\nentry\tr0\ts0\nconst\tr1\t1\nsub\tr0\tr0\tr1\nbr\tlt\tr1\tr0\nout\tr1\tr0\nret\tr0\n"

-- the equation (location, temporary) is in the list
abbrev pub listed : List (ℕ × ℕ) → ℕ × ℕ → Bool
listed xs e = any (λ x. (e.0 == x.0) && e.1 == x.1) xs

module _ (s : Source) (a : Allocation) where
  -- the least solution is there
  abbrev pub Solved : Type 0
  Solved = (X : ℕ → ℕ × ℕ → Bool) × Equations s a X

  -- in a work memory that suffices, a check accepts the allocation
  abbrev pub Accepts : Type 0
  Accepts = Solved × ((size : ℕ) → 64 * length s.nodes ≤ size → (X : ℕ → ℕ × ℕ → Bool) → Equations s a X → Accepted s a size X)

  -- or refuses it by r
  abbrev pub Refuses : Refusal → Type 0
  Refuses r = Solved × ((size : ℕ) → 64 * length s.nodes ≤ size → (X : ℕ → ℕ × ℕ → Bool) → Equations s a X → Refused s a size X r)

  -- the set before node n has these equations and no other
  abbrev pub Before : ℕ → List (ℕ × ℕ) → Type 0
  Before n xs = (X : ℕ → ℕ × ℕ → Bool) → Equations s a X → (e : ℕ × ℕ) → X n e ≡ listed xs e
