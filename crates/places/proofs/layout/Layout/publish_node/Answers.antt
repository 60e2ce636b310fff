use Rattle.std.proofs.Common.{refl}
use Rattle.places.specs.Publish.{published_line}
use Rattle.places.specs.Steps.{place_of}
use Rattle.places.proofs.Rows.{lined}
use Rattle.places.proofs.layout.Layout.publish_node.Goals as goal

pub returns : goal.returns
returns c =
    let t = c.args.tables.now in
    let y = c.args.self.now in
    let p = c.push_row.ensures in
    lined t c.bring_operands.new.tables c.move_result.new.tables c.push_row.new.self (published_line y.registers (place_of y) c.args.node) _ c.bring_operands.ensures c.move_result.ensures refl t.heading.registers t.rows_fit p.heading p.rows p.moves p.entry c.main_line.ensures c.place-ins.ensures.value c.place-outs.ensures.value c.place-end.ensures.value c.place-end.ensures.value
