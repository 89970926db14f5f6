use Rattle.std.proofs.Common.{[], ◌∷◌, ◌++◌, ◌≡◌, List, ap, ◌∙◌, map, subst, sym}
use Rattle.std.proofs.lemmas.List.{map-append}
use Rattle.std.proofs.lemmas.List.Elements.{All-head, All-tail}
use Rattle.hol_conv.specs.Conversion.{Long}
use Rattle.hol_terms.specs.Terms.{Term, plain_term, plain_type}
use Rattle.tree_growth.specs.Extending.{AreNewBranches}
use Rattle.tree_growth.specs.Growths.{GrownBranches, plain_addition, plain_branch_growth}
use Rattle.tree_growth.proofs.NewBranches.{one_more_new}
use Rattle.tree_growth.proofs.extensions.branches_of.Goals as goal

pub new_branch-requires-clause-term : goal.new_branch-requires-clause-term
new_branch-requires-clause-term c =
    let first : c.loop-term.term-iterator.rest.items ≡ c.in-Some.term ∷ c.next.new.self.rest.items = c.in-Some.ensures.steps.0 in
    let left = rw first at c.loop-term.invariant.left in
    All-head (λ (u : Term). Long [] u (plain_type c.args.ty.now)) (plain_term c.in-Some.term) (map plain_term c.next.new.self.rest.items) left

pub loop-term-preserved : goal.loop-term-preserved
loop-term-preserved c =
    let d = plain_addition c.args.addition.now in
    let ty = plain_type c.args.ty.now in
    let body = plain_term c.args.body.now in
    let terms : map plain_term (c.loop-term.yielded ++ c.in-Some.term ∷ []) ≡ map plain_term c.loop-term.yielded ++ plain_term c.in-Some.term ∷ [] = map-append plain_term c.loop-term.yielded (c.in-Some.term ∷ []) in
    let branches : map plain_branch_growth c.push.new.self.items ≡ map plain_branch_growth c.loop-term.all.items ++ plain_branch_growth c.in_ok-new_branch.field-0 ∷ [] =
    ap (map plain_branch_growth) c.in_ok-push.ensures.items ∙ map-append plain_branch_growth c.loop-term.all.items (c.in_ok-new_branch.field-0 ∷ []) in
    let new =
    one_more_new d c.args.positive ty body (plain_term c.in-Some.term) (map plain_term c.loop-term.yielded) (plain_branch_growth c.in_ok-new_branch.field-0) (map plain_branch_growth c.loop-term.all.items)
    c.loop-term.invariant.new c.in_ok-new_branch.ensures
    in
    let first : c.loop-term.term-iterator.rest.items ≡ c.in-Some.term ∷ c.next.new.self.rest.items = c.in-Some.ensures.steps.0 in
    let left = rw first at c.loop-term.invariant.left in
    record {
      new =
          subst (λ (us : List Term). AreNewBranches d c.args.positive ty body us (map plain_branch_growth c.push.new.self.items)) (sym terms)
          (subst (λ (gs : List GrownBranches). AreNewBranches d c.args.positive ty body (map plain_term c.loop-term.yielded ++ plain_term c.in-Some.term ∷ []) gs) (sym branches) new);
      left = All-tail (λ (u : Term). Long [] u ty) (plain_term c.in-Some.term) (map plain_term c.next.new.self.rest.items) left;
    }
