use Rattle.std.proofs.Common.{Bool, ◌≡◌, take}
use Rattle.hol_terms.specs.Terms.{Term, plain_term}
use Rattle.rulep_decide.specs.Circuits.{HasAtomsAmong, IsNumbered, meets, nodes_of}
use Rattle.rulep_decide.specs.TruthValues.{are_true}
use Rattle.rulep_decide.specs.Verdicts.{atoms_among}
use Rattle.rulep_decide.proofs.verdicts.refutation.Given as goal

abbrev pub invariant-loop-i : goal.invariant-loop-i
invariant-loop-i l =
    IsNumbered l.circuit
    × ((is_true : Term → Bool) → meets is_true (nodes_of l.circuit) ≡ are_true is_true (take l.i l.premises))
    × HasAtomsAmong (atoms_among l.premises (plain_term l.conclusion)) (nodes_of l.circuit)
