use Rattle.hol_terms.specs.Terms.{Variable, plain_type}
use Rattle.tps_print.specs.Outputs.{State}
use Rattle.tps_print.proofs.Printing.{variable_known, variable_put}
use Rattle.tps_print.proofs.outputs.Output.variable.Goals as goal

pub returns-in_ok-append_in_parentheses : goal.returns-in_ok-append_in_parentheses
returns-in_ok-append_in_parentheses c =
    let v : Variable = (c.args.name.now, plain_type c.args.ty.now) in
    let state : State = c.args.self.now in
    rw (← c.self.view_is) (variable_put _ v c.append_name.new.out c.append_in_parentheses.new.text c.insert.new.self c.in_ok-append_name.ensures.text c.in_ok-append_in_parentheses.ensures (c.in_ok-insert.ensures.put c.if-branch.true))

pub returns-else-branch : goal.returns-else-branch
returns-else-branch c =
    let v : Variable = (c.args.name.now, plain_type c.args.ty.now) in
    rw (← c.self.view_is) (variable_known _ v c.append_name.new.out c.insert.new.self c.in_ok-append_name.ensures.text (c.in_ok-insert.ensures.known c.if-branch.false))
