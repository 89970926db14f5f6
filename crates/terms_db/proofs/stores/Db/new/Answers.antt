-- A store without a node is one.
use Rattle.terms_db.proofs.Putting.{held_empty}
use Rattle.terms_db.proofs.stores.Db.new.Goals as goal

pub invariant_of-result : goal.invariant_of-result
invariant_of-result c = held_empty c.new.result.keys c.new-2.result.items c.new.ensures.empty c.new-2.ensures.items
