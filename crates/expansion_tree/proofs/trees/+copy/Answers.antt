use Rattle.std.proofs.Common.{◌≡◌, ap, refl, ◌+◌, arith}
use Rattle.expansion_tree.specs.Trees.{plain_branches, plain_tree, node_count, branch_node_count}
use Rattle.expansion_tree.proofs.Chains.{copy_on}
use Rattle.expansion_tree.proofs.trees.+copy.Goals as goal

pub Branches::copy-loop-rest-preserved : goal.Branches::copy-loop-rest-preserved
Branches::copy-loop-rest-preserved t c = record {
  same =
      copy_on _ _ (c.in_ok-term.term, c.in_ok-tree.tree) (plain_branches c.loop-rest.rest.now) _ _ c.in_ok-push.ensures.items
      (rw (c.in-More.is, c.in_ok-term.ensures, c.in_ok-tree.ensures, c.deref.ensures, c.deref-rest.ensures) refl) c.loop-rest.invariant.same;
  smaller =
      let here : branch_node_count (plain_branches c.loop-rest.rest.now) ≡ node_count (plain_tree c.in-More.tree.value) + branch_node_count (plain_branches c.in-More.more.value) = ap (λ b. branch_node_count (plain_branches b)) c.in-More.is in
      rw c.deref-rest.ensures (omega (arith, here, c.loop-rest.invariant.smaller));
}
