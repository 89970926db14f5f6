use Rattle.std.proofs.Common.{rules}
use Rattle.std.proofs.lemmas.List.Sorted.{answers_always}
use Rattle.nd_rules.proofs.Searches.{searched_line}
use Rattle.nd_rules.proofs.outlines.search.Goals as goal

pub returns : goal.returns
returns c =
    let facts = c.binary_search_by_key.ensures in
    let by_key = facts.position (λ l. l.number) (answers_always _ _ _ (λ f a r g called. search rules)) in
    let both = searched_line c.args.lines.now c.args.number c.binary_search_by_key.result c.requires.rising facts.bound by_key in
    record { found = both.0; absent = both.1 }
