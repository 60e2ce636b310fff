use Rattle.std.proofs.Common.{ℕ, Option, sym, ap, ◌∙◌}
use Rattle.sets.specs.Masks.{bit, names}
use Rattle.source.specs.Nodes.{operands}
use Rattle.equations.specs.Equations.{held}
use Rattle.equations.specs.Steps.{with}
use Rattle.equations.specs.declared.set.EquationSet.{EquationSet}
use Rattle.equations.proofs.Rows.{operands_two, operands_one, operands_none, operands_second}
use Rattle.equations.proofs.set.EquationSet.use_operands.Goals.{in-Some, in_default}
use Rattle.equations.proofs.set.EquationSet.use_operands.Goals as goal

pub returns-in-Some-second_origin : goal.returns-in-Some-second_origin
returns-in-Some-second_origin c =
    let b = c.in-Some-second_origin.l in
    let G = bit c.mask_of-in-Some-second_origin.result in
    let q = sym c.second_origin.ensures ∙ c.in-Some-second_origin.is in
    elim c.match-first_origin.branch [
      | in-Some w ↦
          operands_two (operands c.args.node) c.args.main (held c.args.self.now.words) w.in-Some.l b (bit w.mask_of.result) G (held w.add.new.self.words) (held c.add-in-Some-second_origin.new.self.words)
          (sym c.first_origin.ensures ∙ w.in-Some.is) q (λ v. w.mask_of.ensures v ∙ ap (λ (o : Option ℕ). names o v) c.first_operand-first.ensures)
          (λ v. c.mask_of-in-Some-second_origin.ensures v ∙ ap (λ (o : Option ℕ). names o v) c.second_operand-second.ensures) w.add.ensures
          (c.add-in-Some-second_origin.ensures ∙ ap (λ (s : EquationSet). with b G (held s.words)) w.self-is)
      | in_default w ↦ absurd (operands_second (operands c.args.node) c.args.main (held c.args.self.now.words) b (sym c.first_origin.ensures ∙ w.in_default.is) q)
    ]

pub returns-in_default-second_origin : goal.returns-in_default-second_origin
returns-in_default-second_origin c =
    let q = sym c.second_origin.ensures ∙ c.in_default-second_origin.is in
    elim c.match-first_origin.branch [
      | in-Some w ↦
          ap (λ (s : EquationSet). held s.words) w.self-is
          ∙ operands_one (operands c.args.node) c.args.main (held c.args.self.now.words) w.in-Some.l (bit w.mask_of.result) (held w.add.new.self.words)
          (sym c.first_origin.ensures ∙ w.in-Some.is) q (λ v. w.mask_of.ensures v ∙ ap (λ (o : Option ℕ). names o v) c.first_operand-first.ensures) w.add.ensures
      | in_default w ↦
          ap (λ (s : EquationSet). held s.words) w.self-is
          ∙ operands_none (operands c.args.node) c.args.main (held c.args.self.now.words) (sym c.first_origin.ensures ∙ w.in_default.is)
    ]
