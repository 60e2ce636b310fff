use Rattle.std.proofs.Common.{◌≡◌, ◌-◌}
use Rattle.machine.specs.Steps.{standing, SameLent}
use Rattle.machine.proofs.Runs.{Going}
use Rattle.machine.proofs.running.Running.drive.Given as goal

abbrev pub invariant-loop-self : goal.invariant-loop-self
invariant-loop-self g l = record {
  going : Going g.V.Kind.arithmetic g.H.Host.means l.initial.self.code l.budget (standing g.H.Host.state g.F.Frame.cells l.initial.self) (standing g.H.Host.state g.F.Frame.cells l.self);
  same : SameLent l.initial.self l.self;
  lent : g.H.Host.lent l.self.host.now ≡ g.H.Host.lent l.initial.self.host.now;
}

abbrev pub decreases-loop-self : goal.decreases-loop-self
decreases-loop-self g l = l.budget - l.self.at.nodes
