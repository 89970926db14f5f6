use Rattle.std.proofs.Common.{◌∙◌, ap, sym}
use Rattle.std.specs.HashSet.{contains_text}
use Rattle.tps_print.proofs.Taken.{outside_put, outside_left}
use Rattle.tps_print.proofs.names.names_outside_of.Goals as goal
use Rattle.tps_print.proofs.names.names_outside_of.Goals.{then-not-contains+in_ok-push, else-not-contains}

pub loop-before-preserved : goal.loop-before-preserved
loop-before-preserved c =
    elim c.if-not-contains.branch [
      | then-not-contains+in_ok-push w ↦
          rw (w.names-is, w.in_ok-push.ensures.items)
          (outside_put c.args.taken.now c.loop-before.before c.loop-before.names.items c.in_ok-name.name c.loop-before.invariant c.in_ok-name.ensures (ap (contains_text c.args.taken.now) (sym c.as_str.ensures.value) ∙ sym c.contains.ensures ∙ w.if-not-contains.true))
      | else-not-contains w ↦
          rw (w.names-is) (outside_left c.args.taken.now c.loop-before.before c.loop-before.names.items c.in_ok-name.name c.loop-before.invariant c.in_ok-name.ensures (ap (contains_text c.args.taken.now) (sym c.as_str.ensures.value) ∙ sym c.contains.ensures ∙ w.if-not-contains.false))
    ]
