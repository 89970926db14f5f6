use Rattle.grown_trees.proofs.Namesakes.{namesake_comes}
use Rattle.grown_trees.proofs.Next.{next_step}
use Rattle.grown_trees.proofs.Sending.{bare_comes}
use Rattle.grown_trees.proofs.Starting.{has_target}
use Rattle.grown_trees.proofs.laws.growing.Goals as goal

pub returns : goal.returns
returns c = record { target = has_target; bare = bare_comes; next = next_step; namesake = namesake_comes }
