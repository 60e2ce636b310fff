use Rattle.std.proofs.Common.{◌+◌, ◌*◌, length, sym, refl, arith}
use Rattle.allocation.specs.declared.heading.Heading.{Heading}
use Rattle.places.specs.Places.{locations, live_of}
use Rattle.places.specs.Publish.{entry_moves}
use Rattle.places.proofs.Count.{entry_few}
use Rattle.places.proofs.Filling.{begun, begun_open, whole, whole-count}
use Rattle.places.proofs.publish.publish.Goals as goal

pub publish_nodes-requires-clause-ready : goal.publish_nodes-requires-clause-ready
publish_nodes-requires-clause-ready c =
    let R = c.args.registers in
    let place = locations R c.args.places.now in
    let o = c.args.source.now in
    let P = o.heading.parameters in
    let h : Heading = record { registers = R; slots = o.heading.temporaries } in
    let s = c.start.ensures in
    let e = c.end_entry.ensures in
    let b = begun h (entry_moves R place (live_of o 0) 0 P) c.start.new.self c.publish_entry.new.tables c.end_entry.new.self s.heading s.moves c.publish_entry.ensures e.heading e.moves e.entry in
    begun_open h _ _ b _ (3 * length o.nodes.now + 1) refl (sym c.requires.long) (omega (arith, entry_few R place (live_of o 0) 0 P))

pub returns : goal.returns
returns c =
    let R = c.args.registers in
    let place = locations R c.args.places.now in
    let o = c.args.source.now in
    let h : Heading = record { registers = R; slots = o.heading.temporaries } in
    let s = c.start.ensures in
    let e = c.end_entry.ensures in
    let b = begun h (entry_moves R place (live_of o 0) 0 o.heading.parameters) c.start.new.self c.publish_entry.new.tables c.end_entry.new.self s.heading s.moves c.publish_entry.ensures e.heading e.moves e.entry in
    record { lines = whole h _ _ b _ _ c.publish_nodes.ensures; count = whole-count h _ _ b _ _ c.publish_nodes.ensures }
