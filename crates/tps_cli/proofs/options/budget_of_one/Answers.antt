use Rattle.std.proofs.Common.{◌≡◌, inl, inr}
use Rattle.tps_cli.proofs.Budgets.{one_option}
use Rattle.tps_cli.proofs.options.budget_of_one.Goals as goal

pub returns-in-None : goal.returns-in-None
returns-in-None c = λ b o.
    let word = c.in-text.is in elim (one_option b _ _ o) [ inl (e, n, l) ↦ c.in-None.ensures b.weight n | inr (e, w, n) ↦ cc ]

pub returns-in-None-number_up_to : goal.returns-in-None-number_up_to
returns-in-None-number_up_to c = λ b o.
    let word = c.in-text-2.is in elim (one_option b _ _ o) [ inl (e, n, l) ↦ cc | inr (e, w, n) ↦ c.in-None-number_up_to.ensures b.level n ]
