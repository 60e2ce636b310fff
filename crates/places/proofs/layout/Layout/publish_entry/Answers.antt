use Rattle.std.proofs.Common.{arith}
use Rattle.sets.specs.Masks.{bit}
use Rattle.places.specs.Steps.{place_of}
use Rattle.places.proofs.Filling.{entry_open, entry_step}
use Rattle.places.proofs.layout.Layout.publish_entry.Goals as goal

pub enter-requires-clause-ready : goal.enter-requires-clause-ready
enter-requires-clause-ready c =
    let y = c.args.self.now in
    entry_open y.registers (place_of y) (bit c.args.live) c.args.tables.now c.loop-i.tables y c.args.parameters c.loop-i.i c.requires.ready c.loop-i.invariant (omega arith)

pub loop-i-preserved : goal.loop-i-preserved
loop-i-preserved c =
    let y = c.args.self.now in
    entry_step y.registers (place_of y) (bit c.args.live) c.args.tables.now c.loop-i.tables c.enter.new.tables c.loop-i.i c.loop-i.invariant c.enter.ensures
