use Rattle.std.proofs.Common.{IfOk, IsTrue, ◌↔◌, sym, subst}
use Rattle.nd_rules.specs.declared.lines.Why.{Why}
use Rattle.nd_rules.specs.Lines.{plain_line, plain_why}
use Rattle.nd_rules.specs.Rules.{HasTypedTerm}
use Rattle.nd_rules.proofs.justifying.has_typed_term.Goals as goal

pub returns-in-Ui : goal.returns-in-Ui
returns-in-Ui c =
    let P : Why → Type 0 = λ w. IfOk c.has_instance_type.result (λ b. IsTrue b ↔ HasTypedTerm c.args.outline.now (plain_line c.args.line.now) (plain_why w)) in
    subst P (sym c.in-Ui.is) c.has_instance_type.ensures

pub returns-in-Egen : goal.returns-in-Egen
returns-in-Egen c =
    let P : Why → Type 0 = λ w. IfOk c.has_witness_type.result (λ b. IsTrue b ↔ HasTypedTerm c.args.outline.now (plain_line c.args.line.now) (plain_why w)) in
    subst P (sym c.in-Egen.is) c.has_witness_type.ensures
