-- Terms stay as a store grows, and what is put in goes last.
use Rattle.terms_db.proofs.Putting.{first_nodes, term_is_there, term_put_in}
use Rattle.terms_db.proofs.StoreLaws.{grown_term}
use Rattle.terms_db.proofs.laws.changes.Goals as goal

pub returns-clause-kept : goal.returns-clause-kept
returns-clause-kept c = grown_term

pub returns-clause-term : goal.returns-clause-term
returns-clause-term c = term_put_in

pub returns-clause-there : goal.returns-clause-there
returns-clause-there c = term_is_there

pub returns-clause-first : goal.returns-clause-first
returns-clause-first c = first_nodes
