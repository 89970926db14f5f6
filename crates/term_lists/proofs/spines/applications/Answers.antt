use Rattle.std.proofs.Common.{List, ◌++◌, ap, ◌∙◌, sym, map}
use Rattle.hol_terms.specs.Terms.{Term, application, plain_term}
use Rattle.term_lists.proofs.Listing.{applications_more}
use Rattle.term_lists.proofs.spines.applications.Goals as goal

pub loop-function-preserved : goal.loop-function-preserved
loop-function-preserved c =
    let arguments : List Term = map plain_term c.args.arguments.now in
    let last : List Term = map (application (plain_term c.function-item.result)) arguments in
    c.in_ok-add_applications.ensures ∙ ap (λ (l : List Term). l ++ last) c.loop-function.invariant
    ∙ sym (applications_more c.args.functions.now c.loop-function.function-index c.function-item.result arguments c.loop-function-test.true c.function-item.is)
