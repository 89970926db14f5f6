use Rattle.std.proofs.Common.{◌≡◌}
use Rattle.std.proofs.lemmas.Result.{IfOk-weaker}
use Rattle.hol_terms.specs.Terms.{plain_term, plain_type}
use Rattle.expansion_tree.specs.Trees.{no_branch}
use Rattle.tree_growth.specs.Extending.{IsNewBranch}
use Rattle.tree_growth.specs.Growths.{plain_addition, plain_branch_growth, plain_growth}
use Rattle.tree_growth.specs.Wrapped.{in_first_branch}
use Rattle.tree_growth.proofs.NewBranches.{new_branch_is}
use Rattle.tree_growth.proofs.extensions.new_branch.Goals as goal

pub returns : goal.returns
returns c =
    let normal = rw c.in-Some.is at c.in_ok-instance.ensures.normal in
    IfOk-weaker c.in_branch.result (λ g. plain_branch_growth g ≡ in_first_branch (plain_term c.args.term) no_branch (plain_growth c.in_ok-growth.growth))
    (λ g. IsNewBranch (plain_addition c.args.addition.now) c.args.positive (plain_type c.args.ty.now) (plain_term c.args.body.now) (plain_term c.args.term) (plain_branch_growth g))
    (λ g e. new_branch_is (plain_addition c.args.addition.now) c.args.positive (plain_type c.args.ty.now) (plain_term c.args.body.now) (plain_term c.args.term) (plain_term c.in-Some.instance)
    (plain_growth c.in_ok-growth.growth) (plain_branch_growth g) normal c.in_ok-growth.ensures e)
    c.in_branch.ensures
