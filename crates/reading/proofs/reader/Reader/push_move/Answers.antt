use Rattle.std.proofs.Common.{◌≡◌, ◌+◌, ◌≤◌, length, sym, refl, ap, ◌∙◌, arith}
use Rattle.allocation.specs.Allocations.{rows_in, moves_in}
use Rattle.reading.proofs.Views.{view, parts_of, state_is, with_move_is}
use Rattle.std.proofs.lemmas.List.{length_push}
use Rattle.allocation.specs.Ranges.{row_fits}
use Rattle.allocation.proofs.Pushes.{row_longer}
use Rattle.allocation.proofs.LineCounts.{ordered}
use Rattle.reading.specs.Reading.{with_move}
use Rattle.reading.proofs.reader.Reader.push_move.Goals as goal

pub invariant_of-self : goal.invariant_of-self
invariant_of-self c =
    let r = c.args.self.now in
    let e = c.push_move.ensures in
    let long : length (moves_in c.push_move.new.self) ≡ length (moves_in r.tables) + 1 = ap length e.moves ∙ length_push _ _ in
    let rows : length (rows_in c.push_move.new.self) ≡ length (rows_in r.tables) = ap length e.rows in
    let longer : length (moves_in r.tables) ≤ length (moves_in c.push_move.new.self) = omega arith in
    record { fits = ap (λ h. row_fits h.registers (length (moves_in c.push_move.new.self)) r.row) e.heading ∙ row_longer r.tables.heading.registers _ _ r.row longer r.fits; row_left = omega arith }

pub returns : goal.returns
returns c =
    let r = c.args.self.now in
    let t = r.tables in
    let e = c.push_move.ensures in
    state_is _
    ∙ (λ j. view (record { heading = e.heading j; stage = r.stage; entry = e.entry j; moves = e.moves j; rows = e.rows j; row = r.row }))
    ∙ with_move_is t.heading.registers (moves_in t) c.args.m (parts_of r) refl (omega arith) (ordered t.heading.registers _ r.row r.fits) t.rows_fit
    ∙ ap (λ s. with_move s c.args.m) (sym (state_is r))
