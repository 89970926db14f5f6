use Rattle.std.proofs.Common.{refl}
use Rattle.expansion_tree.specs.Trees.{plain_branches}
use Rattle.expansion_tree.proofs.Chains.{chain_on}
use Rattle.proof_text.proofs.trees.chain.Goals as goal

pub loop-term-preserved : goal.loop-term-preserved
loop-term-preserved c =
    chain_on _ _ (c.in-Some.term, c.in-Some.tree) (plain_branches c.loop-term.branches) _ _ c.in-Some.ensures.items
    (rw (c.in_ok-tree.ensures.ok, c.in_ok-new.ensures.ok) refl) c.loop-term.invariant
