-- The numbers of a sound node are in range.
use Rattle.std.proofs.Common.{ℕ}
use Rattle.sets.specs.Masks.{Below}
use Rattle.source.specs.Nodes.{operands, successors, Sound}
use Rattle.source.specs.declared.node.Node.{Node}
use Rattle.source.specs.declared.node.Node.TheVariants.{Const, Mov, Binary, Call, Branch, Return}

pub operands-below : (v n : ℕ) (node : Node) → Sound v n node → Below v (operands node)
operands-below v n (Const d k next) s = tt
operands-below v n (Mov d a next) s = (s.1, tt)
operands-below v n (Binary o d a b next) s = (s.1, (s.2, tt))
operands-below v n (Call d h a b next) s = (s.2, (s.3, tt))
operands-below v n (Branch c a b taken other) s = (s.0, (s.1, tt))
operands-below v n (Return a) s = (s, tt)

pub successors-below : (v n : ℕ) (node : Node) → Sound v n node → Below n (successors node)
successors-below v n (Const d k next) s = (s.2, tt)
successors-below v n (Mov d a next) s = (s.2, tt)
successors-below v n (Binary o d a b next) s = (s.3, tt)
successors-below v n (Call d h a b next) s = (s.4, tt)
successors-below v n (Branch c a b taken other) s = (s.2, (s.3, tt))
successors-below v n (Return a) s = tt
