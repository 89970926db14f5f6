use Rattle.std.proofs.Common.{IfOk, IsTrue, ◌↔◌, sym, subst}
use Rattle.nd_rules.specs.declared.lines.Why.{Why}
use Rattle.nd_rules.specs.Lines.{plain_line, plain_why}
use Rattle.nd_rules.specs.Rules.{HasShape}
use Rattle.nd_rules.proofs.shapes.has_shape.Goals as goal

pub returns-in-Ui : goal.returns-in-Ui
returns-in-Ui c =
    let P : Why → Type 0 = λ w. IfOk c.is_universal_instance.result (λ b. IsTrue b ↔ HasShape c.args.outline.now (plain_line c.args.line.now) (plain_why w)) in
    subst P (sym c.in-Ui.is) c.is_universal_instance.ensures

pub returns-in-Ugen : goal.returns-in-Ugen
returns-in-Ugen c =
    let P : Why → Type 0 = λ w. IfOk c.is_generalization.result (λ b. IsTrue b ↔ HasShape c.args.outline.now (plain_line c.args.line.now) (plain_why w)) in
    subst P (sym c.in-Ugen.is) c.is_generalization.ensures

pub returns-in-Egen : goal.returns-in-Egen
returns-in-Egen c =
    let P : Why → Type 0 = λ w. IfOk c.is_existential.result (λ b. IsTrue b ↔ HasShape c.args.outline.now (plain_line c.args.line.now) (plain_why w)) in
    subst P (sym c.in-Egen.is) c.is_existential.ensures

pub returns-in-Rulec : goal.returns-in-Rulec
returns-in-Rulec c =
    let P : Why → Type 0 = λ w. IfOk c.is_choice.result (λ b. IsTrue b ↔ HasShape c.args.outline.now (plain_line c.args.line.now) (plain_why w)) in
    subst P (sym c.in-Rulec.is) c.is_choice.ensures
