use Rattle.tps_cli.proofs.options.budget_from.Goals as goal

pub returns-in-None-number_up_to : goal.returns-in-None-number_up_to
returns-in-None-number_up_to c = λ b n. c.in-None-number_up_to.ensures b.level n.1

pub returns-in-None : goal.returns-in-None
returns-in-None c = λ b n. c.in-None.ensures b.weight n.0
