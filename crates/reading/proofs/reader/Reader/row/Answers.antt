use Rattle.std.proofs.Common.{ap, sym, ◌∙◌, arith}
use Rattle.allocation.specs.Allocations.{moves_in, line_at}
use Rattle.allocation.proofs.LineCounts.{ordered}
use Rattle.reading.proofs.Views.{row_line, row_line_alternate, row_fits_from, main_of}
use Rattle.reading.specs.States.{line_in, line_so_far}
use Rattle.reading.proofs.reader.Reader.row.Goals as goal

pub returns-in-Alternate : goal.returns-in-Alternate
unfolding line_in
returns-in-Alternate c =
    let r = c.args.self.now in
    let ms = moves_in r.tables in
    let o = ordered r.tables.heading.registers _ r.row r.fits in
    record {
      line =
          ap (λ k. line_at ms (record { main = r.row.main; ins = r.row.ins; outs = r.row.outs; alts = r.row.alts; end = k })) c.place-end.ensures.value
          ∙ row_line_alternate ms r.row ∙ ap (λ g. line_so_far g r.row ms) (sym c.in-Alternate.is);
      fits = row_fits_from _ _ r.row.main r.row.ins r.row.outs r.row.alts c.place-end.result (main_of r.tables.heading.registers _ r.row r.fits) o.ins o.outs (omega (arith, o.alts, o.end, c.place-end.ensures.value)) (omega arith);
    }

pub returns-in_default : goal.returns-in_default
unfolding line_in
returns-in_default c =
    let r = c.args.self.now in
    let ms = moves_in r.tables in
    let o = ordered r.tables.heading.registers _ r.row r.fits in
    record {
      line =
          ap (λ k. line_at ms (record { main = r.row.main; ins = r.row.ins; outs = r.row.outs; alts = k; end = k })) c.place-end.ensures.value
          ∙ row_line ms r.row r.stage c.requires c.in_default.not-Alternate;
      fits = row_fits_from _ _ r.row.main r.row.ins r.row.outs c.place-end.result c.place-end.result (main_of r.tables.heading.registers _ r.row r.fits) o.ins (omega (arith, o.outs, o.alts, o.end, c.place-end.ensures.value)) (omega arith) (omega arith);
    }
