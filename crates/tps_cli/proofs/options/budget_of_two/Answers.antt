use Rattle.std.proofs.Common.{◌≡◌, sym}
use Rattle.tps_cli.proofs.Budgets.{both_match, both_match_turned}
use Rattle.tps_cli.proofs.options.budget_of_two.Goals as goal

pub returns-in-text-text : goal.returns-in-text-text
returns-in-text-text c =
    rw (sym c.in-text-text.is-text-0, sym c.in-text-text.is-text-2-1) at both_match c.budget_from.result c.args.number.now c.args.other.now c.budget_from.ensures

pub returns-in-text-text-2 : goal.returns-in-text-text-2
returns-in-text-text-2 c =
    rw (sym c.in-text-text-2.is-text-2-0, sym c.in-text-text-2.is-text-1) at
    both_match_turned c.budget_from-in-text-text-2.result c.args.other.now c.args.number.now c.budget_from-in-text-text-2.ensures
