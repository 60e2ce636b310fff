use Rattle.std.proofs.Common.{rules}
use Rattle.machine.specs.Steps.{standing}
use Rattle.machine.proofs.Runs.{fulfilled, ended, went}
use Rattle.machine.proofs.running.Running.drive.Goals as goal

pub returns-then-is_full-clause-ran : goal.returns-then-is_full-clause-ran
returns-then-is_full-clause-ran g c =
    let i = c.loop-self.invariant in
    fulfilled g.V.Kind.arithmetic g.H.Host.means c.args.self.now.code c.args.budget (standing g.H.Host.state g.F.Frame.cells c.args.self.now) (standing g.H.Host.state g.F.Frame.cells c.loop-self.self) i.going (search rules) (search rules)

pub returns-in-Break-clause-ran : goal.returns-in-Break-clause-ran
returns-in-Break-clause-ran g c =
    let i = c.loop-self.invariant in
    ended g.V.Kind.arithmetic g.H.Host.means c.args.self.now.code c.args.budget (standing g.H.Host.state g.F.Frame.cells c.args.self.now) (standing g.H.Host.state g.F.Frame.cells c.loop-self.self) i.going (search rules) (search rules) (standing g.H.Host.state g.F.Frame.cells c.step.new.self) c.in-Break.x (search rules)

pub loop-self-preserved : goal.loop-self-preserved
loop-self-preserved g c =
    let i = c.loop-self.invariant in
    record {
      going = went g.V.Kind.arithmetic g.H.Host.means c.args.self.now.code c.args.budget (standing g.H.Host.state g.F.Frame.cells c.args.self.now) (standing g.H.Host.state g.F.Frame.cells c.loop-self.self) i.going (search rules) (search rules) (standing g.H.Host.state g.F.Frame.cells c.step.new.self) (search rules);
      same = search rules;
      lent = search rules;
    }
