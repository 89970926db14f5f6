use Rattle.type_infer.proofs.Loads.{loaded_step}
use Rattle.type_infer.proofs.loading.load.Goals as goal

pub loop-condition-preserved : goal.loop-condition-preserved
loop-condition-preserved c =
    loaded_step c.args.count c.args.conditions.now c.loop-condition.condition-index c.condition-item.result c.loop-condition.state c.add.new.self
    c.requires c.loop-condition-test.true c.condition-item.is c.loop-condition.invariant c.in_ok-add.ensures
