use Rattle.std.proofs.Common.{◌≡◌, length, sym, ap, subst, arith, rules}
use Rattle.allocation.specs.declared.tables.Tables.{Tables}
use Rattle.allocation.specs.Allocations.{allocation_of, moves_in}
use Rattle.allocation.specs.Lines.{move_count}
use Rattle.offer.proofs.Checked.{checked, recounted}
use Rattle.offer.proofs.offer.Goals as goal

pub check-requires : goal.check-requires
check-requires c =
    let h = c.in-Some.source.heading in
    let e = c.in-Some.ensures.heading in
    let t = c.table.ensures in
    record {
      sound = t.sound h e;
      few = t.few h e;
      some = omega (arith, t.some h e, t.long h e);
      lines = search (rules, t.long h e);
      slots = search rules;
    }

pub returns : goal.returns
returns c =
    let h = c.in-Some.source.heading in
    let e = c.in-Some.ensures.heading in
    let t = c.table.ensures in
    let same = c.tables.ensures in
    let many : length (moves_in c.tables.result.now) ≡ move_count (allocation_of c.tables.result.now) = subst (λ (t : Tables). length (moves_in t) ≡ move_count (allocation_of t)) (sym same) c.in_ok-read.ensures.moves in
    record {
      answer =
          checked c.args.loader.now.loaded h c.args.loader.now.tables.nodes c.table.result.now c.read.new.self.tables c.tables.result.now c.args.text.now c.args.memory.now c.check.new.memory c.check.result (sym e)
          t.table same (t.long h e) c.in_ok-read.ensures.read
          (record {
            verdict = c.check.ensures.verdict;
            count = recounted c.check.result _ _ c.check.ensures.count many;
            memory = c.check.ensures.memory;
            fits = record {
              sound = t.sound h e;
              few = t.few h e;
              some = omega (arith, t.some h e, t.long h e);
              lines = search (rules, t.long h e);
              slots = search rules;
            };
          });
      table = recounted c.check.result _ _ c.check.ensures.count (ap (λ (t : Tables). length (moves_in t)) same);
    }
