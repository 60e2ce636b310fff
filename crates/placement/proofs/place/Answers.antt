use Rattle.std.proofs.Common.{ℕ, sym, subst}
use Rattle.std.proofs.lemmas.Option.{MatchOption-at_some}
use Rattle.allocation.specs.Allocations.{Allocation, allocation_of}
use Rattle.loader.specs.Load.{loaded_source, live_words}
use Rattle.placement.specs.Placements.{Enough, Placed}
use Rattle.source.specs.Reading.{Source}
use Rattle.equations.specs.Verdict.{Fits}
use Rattle.places.specs.Places.{source_of, live_of}
use Rattle.placement.proofs.Matching.{fits}
use Rattle.placement.proofs.Answered.{Verdict, table_source, loadable, placed_all, answered_loaded}
use Rattle.placement.proofs.place.Goals as goal

pub publish-requires-clause-placed : goal.publish-requires-clause-placed
publish-requires-clause-placed g c =
    let o = c.in_ok-source.source in
    let is = MatchOption-at_some _ _ o c.in_ok-source.ensures.ok_part c.source.ensures in
    let n = c.in_ok-registers.registers in
    let enough = MatchOption-at_some _ _ n c.in_ok-registers.ensures.ok_part c.find_enough.ensures in
    placed_all (g.P.Placer.places c.args.placer.now) (g.met.P.Placer.lawful c.args.placer.now) c.args.loader.now o is n (subst Enough (sym enough.1) enough.0) c.place.new.out c.place.ensures

pub check_counted-requires : goal.check_counted-requires
check_counted-requires g c =
    let l = c.args.loader.now in
    let o = c.in_ok-source.source in
    let is = MatchOption-at_some _ _ o c.in_ok-source.ensures.ok_part c.source.ensures in
    let n = c.in_ok-registers.registers in
    subst (λ (s : Source). Fits s (allocation_of c.publish.new.tables)) (sym (table_source l o c.table.result.now is c.table.ensures.table))
    (subst (λ (a : Allocation). Fits (source_of o) a) (sym c.publish.ensures.lines)
    (fits (source_of o) (live_of o) n c.place.new.out (loadable l o is)))

pub returns : goal.returns
returns g c =
    let o = c.in_ok-source.source in
    let is = MatchOption-at_some _ _ o c.in_ok-source.ensures.ok_part c.source.ensures in
    let n = c.in_ok-registers.registers in
    let enough = MatchOption-at_some _ _ n c.in_ok-registers.ensures.ok_part c.find_enough.ensures in
    let low = subst Enough (sym enough.1) enough.0 in
    let places = g.P.Placer.places c.args.placer.now in
    let b = allocation_of c.publish.new.tables in
    let v = c.check_counted.ensures in
    let same = table_source c.args.loader.now o c.table.result.now is c.table.ensures.table in
    subst (λ (R : ℕ). Placed places (loaded_source c.args.loader.now) (live_words c.args.loader.now) R c.args.memory.now b c.check_counted.new.memory c.check_counted.result) enough.1
    (answered_loaded places (g.met.P.Placer.lawful c.args.placer.now) c.args.loader.now o is n low c.place.new.out c.place.ensures b c.publish.ensures.lines c.args.memory.now c.check_counted.new.memory c.check_counted.result
    (subst (λ (s : Source). Verdict s b c.args.memory.now c.check_counted.new.memory c.check_counted.result) same (record { verdict = v.verdict; count = v.count; memory = v.memory })))
