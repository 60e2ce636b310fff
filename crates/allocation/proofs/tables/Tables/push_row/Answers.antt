use Rattle.std.proofs.Common.{◌≡◌, ◌+◌, length, vec_items, ap, ◌∙◌, arith}
use Rattle.std.proofs.lemmas.List.{length_push}
use Rattle.allocation.proofs.Pushes.{rows-push}
use Rattle.allocation.proofs.tables.Tables.push_row.Goals as goal

pub invariant_of-self : goal.invariant_of-self
invariant_of-self c =
    let t = c.args.self.now in
    let h = t.heading in
    let long : length (vec_items c.push_reserved.new.self) ≡ length (vec_items t.rows) + 1 = ap length c.push_reserved.ensures.items ∙ length_push _ _ in record { row_room = omega arith; move_room = omega arith; row_len = omega arith; move_len = omega arith; few_rows = omega arith; few_moves = omega arith; few_registers = omega arith; few_slots = omega arith; entry_within = omega arith; rows_fit = rows-push h.registers (length (vec_items t.moves)) (vec_items t.rows) c.args.row _ t.rows_fit c.requires.fits c.push_reserved.ensures.items; moves_fit = t.moves_fit }
