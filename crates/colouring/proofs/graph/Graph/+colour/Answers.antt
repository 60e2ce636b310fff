use Rattle.std.proofs.Common.{◌≡◌, ℕ, ◌-◌, not, List, length, set, ap, ◌∙◌, arith}
use Rattle.sets.specs.Masks.{bit}
use Rattle.colouring.specs.Colouring.{coloured, to_place, lowest_of, held, rows}
use Rattle.colouring.proofs.Steps.{coloured_step}
use Rattle.colouring.proofs.graph.Graph.+colour.Goals as goal

pub returns-in-Some : goal.returns-in-Some
returns-in-Some t c =
    let g = c.args.self.now in
    let table = g.rows.now in
    let n = length table in
    let qs = c.colour.new.places in
    let v = c.in-Some.v in
    let rest = bit c.remove.result.left in
    let long : length qs ≡ n = omega arith in
    ap (set qs v) (c.choose_place.ensures ∙ ap (λ (k : ℕ). to_place (lowest_of g.registers (λ r. not (held k (rows table v) qs r)))) long)
    ∙ coloured_step n g.registers (rows table) (bit g.left) rest c.args.turns v qs (omega arith) c.in-Some.ensures.value c.remove.ensures.left
    (c.colour.ensures ∙ ap (λ (ws : List ℕ). coloured (length ws) c.remove.result.registers (rows ws) (c.args.turns - 1) rest) c.remove.ensures.rows ∙ ap (λ (k : ℕ). coloured n k (rows table) (c.args.turns - 1) rest) c.remove.ensures.registers)
