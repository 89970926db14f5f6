use Rattle.std.proofs.Common.{◌≡◌, ◌+◌, ◌-◌, arith}
use Rattle.dependency.proofs.Using.{variable_put}
use Rattle.dependency.proofs.uses.selected_variables.Goals as goal

pub loop-k-preserved : goal.loop-k-preserved
loop-k-preserved c =
    let k = c.loop-k.k in
    let place : k + 1 - 1 ≡ k = omega arith in
    let is_s = rw place at c.selected-selected.ensures in
    variable_put c.args.fitted.now.selection_list k _ c.loop-k.variables c.insert.new.self c.in_ok-insert.field-0 c.requires is_s c.loop-k.invariant c.in_ok-insert.ensures.put c.in_ok-insert.ensures.known
