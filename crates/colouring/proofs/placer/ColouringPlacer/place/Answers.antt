use Rattle.std.proofs.Common.{◌≡◌, ℕ, ◌-◌, ◌&&◌, ltb, List, length, ap, ◌∙◌, ap₂, arith}
use mathlib.Core.Bool.{and-true}
use Rattle.std.proofs.lemmas.Bool.{and_from, lt-ltb}
use Rattle.sets.specs.Masks.{bit}
use Rattle.places.specs.Places.{source_of, live_of}
use Rattle.colouring.specs.Colouring.{coloured, conflict, used, rows}
use Rattle.colouring.proofs.Steps.{coloured_same}
use Rattle.colouring.proofs.placer.ColouringPlacer.place.Goals as goal

pub returns : goal.returns
returns c =
    let o = c.args.source.now in
    let n = o.heading.temporaries in
    let K = c.args.registers - 2 in
    let table = c.find_conflicts-conflicts.result.items in
    let s = source_of o in
    let L = live_of o in
    let left = bit c.intersection.result in
    let turns : length c.args.out.now ≡ n = omega arith in
    c.colour.ensures ∙ ap (λ (ws : List ℕ). coloured (length ws) K (rows ws) (length c.args.out.now) left) c.as_slice.ensures.value
    ∙ ap₂ (λ (k t : ℕ). coloured k K (rows table) t left) c.find_conflicts-conflicts.ensures.long turns
    ∙ coloured_same n K (rows table) (conflict s L) (λ u v hu hv. c.find_conflicts-conflicts.ensures.rows u v hu) n left (used s L)
    (λ v h. c.intersection.ensures v ∙ (ap₂ ◌&&◌ (c.find_used.ensures v) (c.below.ensures v ∙ and_from (ltb v n) (ltb v 64) (lt-ltb v n h) (lt-ltb v 64 (omega (arith, o.few)))) ∙ and-true (used s L v)))
