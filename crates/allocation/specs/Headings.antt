-- The heading of an allocation text.
use Rattle.std.specs.Prelude.{ℕ, min, List, codes, Option}
use Rattle.std.specs.Option.{option_map}
use Rattle.text.specs.Fields.{Shape, number_between, after_title, and_then}
use Rattle.allocation.specs.declared.heading.Heading.{Heading}

-- `alloc R S N`, after its title, for a source with p parameters and n nodes: R from 3 to 16, S from p to 48, N the number n, which is at most 256
abbrev pub heading_from : ℕ → ℕ → Shape → Shape → Shape → Option Heading
heading_from p n r s m =
    and_then (number_between 3 16 r) (λ x. and_then (number_between p 48 s) (λ y. option_map (λ _. record { registers = x; slots = y }) (number_between n (min n 256) m)))

unfoldable pub heading_of : ℕ → ℕ → List Shape → Option Heading
heading_of p n fs = and_then (after_title (codes "alloc") fs) (λ r. heading_from p n r.0 r.1 r.2)
