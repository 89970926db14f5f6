use Rattle.type_infer.proofs.building.+filled_type.Given as goal

abbrev pub decreases-filled_type : goal.decreases-filled_type
decreases-filled_type l = l.k
