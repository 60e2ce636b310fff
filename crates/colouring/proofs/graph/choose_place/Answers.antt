use Rattle.std.proofs.Common.{length, Some, None, ap, arith}
use Rattle.sets.specs.Masks.{bit}
use Rattle.colouring.specs.Colouring.{to_place, held}
use Rattle.colouring.proofs.Steps.{lowest_free_lem}
use Rattle.colouring.proofs.graph.choose_place.Goals as goal

pub returns-in-Some : goal.returns-in-Some
returns-in-Some c =
    ap to_place (lowest_free_lem c.args.k (bit c.held_registers.result) (held (length c.args.places.now) (bit c.args.near) c.args.places.now) (λ r l. c.held_registers.ensures r (omega arith)) (Some c.in-Some.r) c.in-Some.ensures)

pub returns-in-None : goal.returns-in-None
returns-in-None c =
    ap to_place (lowest_free_lem c.args.k (bit c.held_registers.result) (held (length c.args.places.now) (bit c.args.near) c.args.places.now) (λ r l. c.held_registers.ensures r (omega arith)) None c.in-None.ensures)
