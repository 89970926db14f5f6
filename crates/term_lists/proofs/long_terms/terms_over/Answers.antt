use Rattle.term_lists.proofs.long_terms.terms_over.Goals as goal

pub returns : goal.returns
returns c = rw c.new-scope.ensures at c.terms_of_type.ensures.terms
