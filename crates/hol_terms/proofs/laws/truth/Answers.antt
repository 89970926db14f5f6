use Rattle.hol_terms.proofs.Truths.{holds_or_not, atom_holds}
use Rattle.hol_terms.proofs.laws.truth.Goals as goal

pub returns : goal.returns
returns c = record { decided = holds_or_not; atom = atom_holds }
