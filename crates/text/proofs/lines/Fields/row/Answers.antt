use Rattle.std.proofs.Common.{rules}
use Rattle.text.proofs.Rows.{row_read, row_full}
use Rattle.text.proofs.lines.Fields.row.Goals as goal

pub returns-in_err-ok-clause-few : goal.returns-in_err-ok-clause-few
returns-in_err-ok-clause-few g c =
    let few = row_full _ _ _ c.new-row.ensures c.extend.result c.ok.result g.row.N c.ok.ensures.value c.in_err-ok.was c.extend.ensures.full c.extend.ensures.one_more in
    search rules

pub returns : goal.returns
returns g c =
    let r = row_read _ _ _ c.new-row.ensures c.extend.result c.ok.result c.in_ok-ok.field-0 c.ok.ensures.value c.in_ok-ok.was c.extend.ensures.ran in
    record { few = tt; bytes = r.0; shapes = r.1; starts = r.2 }
