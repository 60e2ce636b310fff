use Rattle.std.proofs.Common.{◌≡◌, ℕ, eqb, subst, arith, rules}
use Rattle.sets.specs.Masks.{bit}
use Rattle.equations.specs.Questions.{foreign}
use Rattle.verdict.proofs.Asking.{Arrived, arrived_none, arrived_more, finds_by}
use Rattle.verdict.proofs.questions.find_foreign.Goals as goal

pub loop-i-init : goal.loop-i-init
loop-i-init c = arrived_none c.args.arrival c.empty-words.result c.empty-words.ensures

pub loop-i-preserved : goal.loop-i-preserved
loop-i-preserved c =
    let one : (v : ℕ) → bit c.single.result v ≡ eqb v c.loop-i.i = search rules in
    arrived_more c.args.arrival c.loop-i.i c.single.result c.loop-i.words c.loop-i.invariant (omega arith) one

pub returns : goal.returns
returns c =
    let all : c.loop-i.i ≡ c.args.parameters = omega arith in
    let a = subst (λ (k : ℕ). Arrived c.args.arrival k c.loop-i.words) all c.loop-i.invariant in
    finds_by c.args.set.now c.loop-i.words (foreign c.args.arrival c.args.parameters) c.find_outside.result (search rules) (λ k. search rules) a.is c.find_outside.ensures
