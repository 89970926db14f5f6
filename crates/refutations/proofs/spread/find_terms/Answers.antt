use Rattle.std.proofs.Common.{◌≡◌, ℕ, Bool, List, sym, ◌∙◌, ap, ap₂, subst}
use Rattle.std.specs.List.{AllByRecursion}
use Rattle.hol_terms.specs.Terms.{Term, plain_term}
use Rattle.expansion_tree.specs.Trees.{ExpansionTree, ExpansionBranches, branch, plain_branches, plain_tree}
use Rattle.refutations.specs.Opens.{Open, at_term, branch_occurrence_total, terms_below}
use Rattle.refutations.proofs.Adding.{AreFound, term_added, rest_unfound}
use Rattle.refutations.proofs.Descending.{node_below}
use Rattle.refutations.proofs.Finding.{IsOutside}
use Rattle.refutations.proofs.spread.find_terms.Goals as goal

pub loop-rest-preserved : goal.loop-rest-preserved
loop-rest-preserved c =
    let p : Bool = c.args.node.positive in
    let line : ℕ = c.args.node.line in
    let u : Term = plain_term c.in-More.term in
    let t : ExpansionTree = plain_tree c.deref-in-More.result.now in
    let bs : ExpansionBranches = plain_branches c.deref-rest.result.now in
    let place = c.loop-rest.place in
    let here = c.in_ok-here.here in
    let entries = c.loop-rest.case.fronts.entries in
    let whole : List Open = terms_below p line c.args.place (plain_branches c.args.branches.now) in
    let rest_is : plain_branches c.loop-rest.rest.now ≡ branch u t bs =
    ap plain_branches c.in-More.is ∙ ap₂ (λ (t : ExpansionTree) (bs : ExpansionBranches). branch u t bs) (ap plain_tree (sym c.deref-in-More.ensures)) (ap plain_branches (sym c.deref-rest.ensures)) in
    let found : AreFound c.args.case.now.fronts.entries entries p line place (branch u t bs) whole =
    subst (λ (bs : ExpansionBranches). AreFound c.args.case.now.fronts.entries entries p line place bs whole) rest_is c.loop-rest.invariant.found in
    let unfound : AllByRecursion (IsOutside place.occurrences (branch_occurrence_total (branch u t bs))) entries =
    subst (λ (bs : ExpansionBranches). AllByRecursion (IsOutside place.occurrences (branch_occurrence_total bs)) entries) rest_is c.loop-rest.invariant.unfound in
    let is = ap (λ (t : ExpansionTree). at_term u (node_below p t line here)) (ap plain_tree (c.deref.ensures ∙ sym c.deref-in-More.ensures)) in
    let next = c.in_ok-place.place in
    let new = c.insert.new.self.entries in
    let added = c.in_ok-insert.ensures.entries in
    record {
      found = term_added p line place here next u t bs _ entries new c.in_ok-here.ensures c.in_ok-place.ensures unfound added c.args.case.now.fronts.entries whole is found;
      unfound = rest_unfound p line place here next u t bs _ entries new c.in_ok-here.ensures c.in_ok-place.ensures unfound added;
      splits = c.loop-rest.invariant.splits;
      held = c.loop-rest.invariant.held;
      duties = c.loop-rest.invariant.duties;
    }
