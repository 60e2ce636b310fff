use Rattle.std.proofs.Common.{◌≡◌, List, [], ◌∷◌, ◌++◌, sym, ap, ◌∙◌, subst, rules}
use Rattle.allocation.specs.declared.line.Move.{Move}
use Rattle.equations.specs.Equations.{held, back_moves}
use Rattle.equations.specs.Steps.{MovesReach}
use Rattle.equations.proofs.Rows.{moves_left, moves_push, moves_last}
use Rattle.equations.proofs.set.EquationSet.back_moves.Goals as goal

pub loop-m-init : goal.loop-m-init
loop-m-init c =
    let all : c.into_iter-m-iterator.result.iter.rest.now ≡ c.args.moves.now = search rules in
    (subst MovesReach (sym all) c.requires, ap (λ (ms : List Move). back_moves ms (held c.args.self.now.words)) all)

pub back_move-requires : goal.back_move-requires
back_move-requires c =
    let last = moves_last _ _ (subst MovesReach c.in-Some.ensures.steps c.loop-m.invariant.0) in
    record { to = last.0.0; from = last.0.1 }

pub loop-m-preserved : goal.loop-m-preserved
loop-m-preserved c =
    let rest : c.loop-m.m-iterator.iter.rest.now ≡ c.next.new.self.iter.rest.now ++ c.in-Some.m.now ∷ [] = c.in-Some.ensures.steps in (
      (moves_last _ _ (subst MovesReach rest c.loop-m.invariant.0)).1,
      ap (back_moves c.next.new.self.iter.rest.now) c.back_move.ensures ∙ sym (moves_push c.next.new.self.iter.rest.now c.in-Some.m.now (held c.loop-m.self.words))
          ∙ ap (λ (ms : List Move). back_moves ms (held c.loop-m.self.words)) (sym rest) ∙ c.loop-m.invariant.1,
    )

pub returns : goal.returns
returns c = sym (moves_left c.loop-m.m-iterator.iter.rest.now (held c.loop-m.self.words) c.in-None.ensures.steps.0) ∙ c.loop-m.invariant.1
