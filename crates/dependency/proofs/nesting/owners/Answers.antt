use Rattle.std.proofs.Common.{◌≡◌, ◌+◌, ◌-◌, ap, arith, length}
use Rattle.std.proofs.lemmas.List.{length_push}
use Rattle.expansion_tree.specs.Occurrences.{occurrences_of}
use Rattle.dependency.proofs.Climbing.{AreOwners-push, scanned_on}
use Rattle.dependency.proofs.nesting.owners.Goals as goal

pub loop-k-preserved : goal.loop-k-preserved
loop-k-preserved c =
    let occurrences = occurrences_of c.args.fitted.now.tree in
    let selections = c.args.fitted.now.selection_list in
    let k = c.loop-k.k in
    let items = c.in_ok-push.ensures.items in
    let place : k + 1 - 1 ≡ k = omega arith in
    let is_s = rw place at c.selected-node.ensures in
    let scan = c.owner-owner.new.self in
    record {
      many = omega (arith, ap length items, length_push c.loop-k.owners.items c.owner-owner.result, c.loop-k.invariant.many);
      each = rw items (AreOwners-push occurrences selections c.loop-k.owners.items k c.owner-owner.result _ c.loop-k.invariant.many is_s c.owner-owner.ensures.owner c.loop-k.invariant.each);
      ahead = λ j s less at. scanned_on occurrences scan.opened scan.innermost c.selected-node.result.node s.node (c.requires.selections.rising k j _ s is_s at (omega (arith, less))) c.owner-owner.ensures.scanned;
    }
