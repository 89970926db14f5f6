-- The measure of unloading: the place, which falls at each part.
use Rattle.terms_db.proofs.stores.Db.+unload.Given as goal

abbrev pub decreases-unload : goal.decreases-unload
decreases-unload l = l.id.place
