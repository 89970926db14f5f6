use Rattle.std.proofs.Common.{[], All, map}
use Rattle.hol_conv.specs.Conversion.{Long}
use Rattle.hol_terms.specs.Terms.{Term, plain_term, plain_type}
use Rattle.tree_growth.specs.Extending.{AreNewBranches}
use Rattle.tree_growth.specs.Growths.{plain_addition, plain_branch_growth}
use Rattle.tree_growth.proofs.extensions.branches_of.Given as goal

-- the branches that were made, and the terms that are left
abbrev pub invariant-loop-term : goal.invariant-loop-term
invariant-loop-term l = record {
  new : AreNewBranches (plain_addition l.addition) l.positive (plain_type l.ty) (plain_term l.body) (map plain_term l.yielded) (map plain_branch_growth l.all.items);
  left : All (λ (u : Term). Long [] u (plain_type l.ty)) (map plain_term l.term-iterator.rest.items);
}
