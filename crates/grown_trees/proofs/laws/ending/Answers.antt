use Rattle.grown_trees.proofs.Ending.{each_step_weighs, last_step_is_proof, last_step_weighs}
use Rattle.grown_trees.proofs.laws.ending.Goals as goal

pub returns : goal.returns
returns c = record { proof = last_step_is_proof; weight = last_step_weighs; light = each_step_weighs }
