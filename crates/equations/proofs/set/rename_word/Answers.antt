use Rattle.std.proofs.Common.{◌≡◌, ℕ, eqb, rules}
use Rattle.sets.specs.Masks.{bit}
use Rattle.equations.proofs.Rows.{rename_none, rename_some, is_in, not_in}
use Rattle.equations.proofs.set.rename_word.Goals as goal

pub returns-then-rest-word : goal.returns-then-rest-word
returns-then-rest-word c =
    let one : (v : ℕ) → bit c.single.result v ≡ eqb v c.args.d = search rules in
    rename_none c.args.word c.args.d c.args.a (not_in c.args.word c.without-rest.result c.single.result c.args.d c.requires.d one c.without-rest.ensures c.if-rest-word.true)

pub returns-else-rest-word : goal.returns-else-rest-word
returns-else-rest-word c =
    let one : (v : ℕ) → bit c.single.result v ≡ eqb v c.args.d = search rules in
    let new : (v : ℕ) → bit c.single-else-rest-word.result v ≡ eqb v c.args.a = search rules in
    let w = c.args.word in
    let rest = c.without-rest.result in
    let some = is_in w rest c.single.result c.args.d c.requires.d one c.without-rest.ensures c.ranges.word.fits c.without-rest.type_inv c.if-rest-word.false in
    rename_some w rest c.single.result c.args.d c.requires.d one c.without-rest.ensures c.args.a c.single-else-rest-word.result c.union.result new c.union.ensures some
