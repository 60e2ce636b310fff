use Rattle.std.proofs.Common.{◌≡◌, true, false, length, refl, arith, rules, tests}
use Rattle.std.proofs.lemmas.Iterator.{first_from_find, YieldsList-from_range}
use Rattle.sets.specs.Masks.{bit}
use Rattle.colouring.specs.Colouring.{under, rows}
use Rattle.colouring.proofs.Steps.{lowest_first}
use Rattle.colouring.proofs.graph.Graph.lowest_under.Goals as goal

pub returns : goal.returns
returns c =
    let g = c.args.self.now in
    let n = length g.rows.now in
    let p = under n g.registers (rows g.rows.now) (bit g.left) in
    lowest_first n p c.find.result (first_from_find _ _ c.find.result (λ v. p v ≡ true) (λ v. p v ≡ false) c.find.ensures.ran (YieldsList-from_range 0 n n refl (omega arith)) (λ x q k. search (rules, tests)) (λ x q k. search (rules, tests)))
