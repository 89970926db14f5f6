use Rattle.std.proofs.Common.{◌≡◌, ◌++◌, ◌∙◌, [], List, IfOk, ap, map, subst}
use Rattle.hol_terms.specs.Terms.{plain_term, plain_type}
use Rattle.expansion_tree.specs.Budgets.{Head}
use Rattle.term_lists.specs.Heads.{plain_head}
use Rattle.term_lists.specs.LongTerms.{AreLongTerms}
use Rattle.term_lists.proofs.long_terms.long_terms.Goals as goal

pub returns : goal.returns
returns c =
    let signature : List Head = map plain_head c.args.signature.now in
    let selected : List Head = map plain_head c.args.selected.now in
    let heads : c.deref.result.now ≡ signature ++ selected =
    c.deref.ensures.value ∙ c.in_ok-add_typed-2.ensures
    ∙ ap (λ (l : List Head). l ++ selected) (c.in_ok-add_typed.ensures ∙ ap (λ (l : List Head). l ++ signature) c.new-heads.ensures.items)
    in
    subst (λ (h : List Head). IfOk c.terms_over.result (λ terms. AreLongTerms [] h (plain_type c.args.ty.now) c.args.weight (map plain_term terms.items))) heads c.terms_over.ensures
