use Rattle.nd_rules.specs.Lines.{plain_line}
use Rattle.nd_rules.proofs.Refusals.{free_excluded, refusal_excludes, answer_excludes}
use Rattle.nd_rules.proofs.justifying.justify.Goals as goal

pub returns-in-Err-clause-refused : goal.returns-in-Err-clause-refused
returns-in-Err-clause-refused c = refusal_excludes c.args.outline.now (plain_line c.args.line.now) c.in-Err.fault c.in-Err.ensures.fault

pub returns-in-Some-clause-refused : goal.returns-in-Some-clause-refused
returns-in-Some-clause-refused c other j =
    let free = rw c.in-Some.is at c.in_ok-fault.ensures in
    free_excluded c.args.outline.now (plain_line c.args.line.now) c.in-Some.number free j.variable

pub returns-clause-refused : goal.returns-clause-refused
returns-clause-refused c = answer_excludes c.args.outline.now (plain_line c.args.line.now) c.is_licensed.result c.is_licensed.ensures.fault
