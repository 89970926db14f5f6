use Rattle.std.proofs.Common.{rules, ◌∙◌}
use Rattle.std.proofs.lemmas.List.Sorted.{answers_always}
use Rattle.nd_rules.proofs.Searches.{searched_number}
use Rattle.nd_rules.proofs.resting.holds.Goals as goal

pub returns : goal.returns
returns c =
    let facts = rw c.as_slice.ensures.all at c.binary_search_by_key.ensures in
    let by_key = facts.position (λ n. n) (answers_always _ _ _ (λ f a r g called. search rules)) in
    c.is_ok.ensures.value ∙ searched_number c.args.hyps.now c.args.number _ c.as_slice.ensures.rising facts.bound by_key
