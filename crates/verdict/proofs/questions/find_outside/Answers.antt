use Rattle.std.proofs.Common.{arith, rules}
use Rattle.verdict.proofs.Asking.{find_here, find_more, find_none}
use Rattle.verdict.proofs.questions.find_outside.Goals as goal

pub loop-l-init : goal.loop-l-init
loop-l-init c e h = absurd (omega arith)

pub loop-l-preserved : goal.loop-l-preserved
loop-l-preserved c = find_more c.args.set.now c.args.allowed.now c.loop-l.l c.loop-l.invariant c.without.result c.without.ensures c.in_default.ensures

pub returns-in-Some : goal.returns-in-Some
returns-in-Some c = find_here c.args.set.now c.args.allowed.now c.loop-l.l c.loop-l.invariant c.without.result c.in-Some.v c.without.ensures c.in-Some.ensures.1

pub returns : goal.returns
returns c = find_none c.args.set.now c.args.allowed.now c.loop-l.l c.loop-l.invariant (search rules)
