use Rattle.std.proofs.Common.{◌≡◌, Bool, false}
use Rattle.std.specs.Bool.{IsTrue}
use Rattle.vertical_paths.proofs.Pairs.{good_more, not_all_good, first_bad}
use Rattle.vertical_paths.proofs.matings.bad_pair.Goals as goal

no : (b : Bool) → b ≡ false → ¬ IsTrue b
no b e h = cc

pub returns-then-not-is_good-clause-none : goal.returns-then-not-is_good-clause-none
returns-then-not-is_good-clause-none c =
    let tells = rw c.pairs-pair-items.ensures at c.is_good.ensures in
    let within = rw c.pairs-pair-items.ensures at c.loop-k-test.true in (
      λ h. cc,
      λ all. absurd (not_all_good c.args.fitted.now.leaf_list c.args.mating.now c.loop-k.k (0, 0) within (λ good. no c.is_good.result c.if-not-is_good.true (tells.1 good)) all),
    )

pub returns-then-not-is_good-clause-some : goal.returns-then-not-is_good-clause-some
returns-then-not-is_good-clause-some c =
    let tells = rw c.pairs-pair-items.ensures at c.is_good.ensures in
    let within = rw c.pairs-pair-items.ensures at c.loop-k-test.true in
    first_bad c.args.fitted.now.leaf_list c.args.mating.now c.loop-k.k (0, 0) within c.loop-k.invariant (λ good. no c.is_good.result c.if-not-is_good.true (tells.1 good))

pub loop-k-preserved : goal.loop-k-preserved
loop-k-preserved c =
    let tells = rw c.pairs-pair-items.ensures at c.is_good.ensures in
    let within = rw c.pairs-pair-items.ensures at c.loop-k-test.true in
    good_more c.args.fitted.now.leaf_list c.args.mating.now c.loop-k.k (0, 0) within c.loop-k.invariant (tells.0 c.if-not-is_good.false)
