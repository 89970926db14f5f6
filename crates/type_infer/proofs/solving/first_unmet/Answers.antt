use Rattle.std.proofs.Common.{◌+◌, ◌-◌, ◌/◌, arith}
use Rattle.type_infer.proofs.Solved.{first_unmet_at, none_can_be_met, unmet_many, unmet_whole, within_part}
use Rattle.type_infer.proofs.solving.first_unmet.Goals as goal

pub loop-unmet-init : goal.loop-unmet-init
loop-unmet-init c = record {
  less = unmet_many c.args.conditions.now c.requires.unmet;
  inside = omega arith;
  met = none_can_be_met;
  unmet = unmet_whole c.args.conditions.now c.requires.unmet;
}

pub can_be_met-requires : goal.can_be_met-requires
can_be_met-requires c =
    within_part c.args.count c.args.conditions.now (c.loop-unmet.met + (c.loop-unmet.unmet - c.loop-unmet.met) / 2) c.requires.within

pub returns : goal.returns
returns c =
    first_unmet_at c.args.conditions.now c.index-conditions-met.result c.loop-unmet.met c.loop-unmet.unmet c.loop-unmet.invariant.less
    (omega (arith, c.loop-unmet-test.false, c.loop-unmet.invariant.less)) c.loop-unmet.invariant.inside c.loop-unmet.invariant.met c.loop-unmet.invariant.unmet
