-- What a kind of value means.
use Rattle.std.specs.Prelude.{ℕ, Bool}
use Rattle.source.specs.declared.node.Operation.{Operation}
use Rattle.source.specs.declared.node.Condition.{Condition}

-- the value of a constant, an operation on two values, a condition on two
pub record Arithmetic (V : Type 0) : Type 0 where
  pub constant : ℕ → V
  pub operate : Operation → V → V → V
  pub test : Condition → V → V → Bool
