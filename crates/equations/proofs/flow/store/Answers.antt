use Rattle.std.proofs.Common.{◌≡◌, ℕ, ◌+◌, ◌-◌, length, List, take, drop, sym, refl, ap, ◌∙◌, subst, arith, rules}
use Rattle.std.proofs.lemmas.Slice.{between-put_mid}
use Rattle.std.proofs.lemmas.Slice.Eq.{slice_eq-Decides}
use Rattle.std.proofs.lemmas.Bool.{both_ways}
use Rattle.std.proofs.lemmas.Bool.Decides.{Decides-eqb}
use borrow.Rule.Slice.PartMut.{put_mid}
use Rattle.sets.proofs.Turns.{room_less}
use Rattle.equations.specs.Steps.{Stored}
use Rattle.equations.proofs.Visits.{put_same, put_stored, stored_grows}
use Rattle.equations.proofs.flow.store.Goals as goal

pub returns-then-eq-clause-stored : goal.returns-then-eq-clause-stored
returns-then-eq-clause-stored c =
    let at = c.args.at in
    let words = c.args.memory.now in
    let row = c.args.set.now.words in
    let long : length row ≡ 64 = search rules in
    let same : take (at + 64 - at) (drop at words) ≡ row = (slice_eq-Decides Decides-eqb _ _ _ refl).0 (sym c.eq.ensures ∙ c.if-eq.true) in
    subst (λ (ws : List ℕ). Stored words at row ws) (put_same at (at + 64 - at) words) (put_stored words at (at + 64 - at) row (take (at + 64 - at) (drop at words)) (omega arith) (omega arith) long same)

pub returns-clause-stored : goal.returns-clause-stored
returns-clause-stored c =
    let at = c.args.at in
    let row = c.args.set.now.words in
    let long : length row ≡ 64 = search rules in
    let now : c.copy_from_slice.new.self ≡ row = search rules in
    put_stored c.args.memory.now at (at + 64 - at) row c.copy_from_slice.new.self (omega arith) (omega arith) long now

pub returns-clause-again : goal.returns-clause-again
returns-clause-again c = λ e.
    let at = c.args.at in
    let words = c.args.memory.now in
    let row = c.args.set.now.words in
    let words' : List ℕ = put_mid at (at + 64 - at) words c.copy_from_slice.new.self in
    let long : length row ≡ 64 = search rules in
    let now : c.copy_from_slice.new.self ≡ row = search rules in
    let stored : Stored words at row words' = put_stored words at (at + 64 - at) row c.copy_from_slice.new.self (omega arith) (omega arith) long now in
    let all : length words' ≡ length words = search rules in
    let part : take (at + 64 - at) (drop at words') ≡ row = between-put_mid at (at + 64 - at) words c.copy_from_slice.new.self (at + 64) (omega arith) (omega (arith, ap length now, long)) ∙ now in
    let ne : (words ≡ words' → ⊥) = λ q.
    let same : take (at + 64 - at) (drop at words) ≡ row = ap (λ (ws : List ℕ). take (at + 64 - at) (drop at ws)) q ∙ part in
    both_ways c.eq.result c.if-eq.false (c.eq.ensures ∙ (slice_eq-Decides Decides-eqb _ _ _ refl).1 same) in
    room_less words words' all (stored_grows words at row words' long stored c.requires.grows) (λ k. (c.type_inv.memory k).fits) ne
