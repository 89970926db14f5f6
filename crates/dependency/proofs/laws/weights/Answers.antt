use Rattle.dependency.proofs.Weighing.{stages_many, stages_weigh}
use Rattle.dependency.proofs.laws.weights.Goals as goal

pub returns : goal.returns
returns c = record { many = stages_many; weight = stages_weigh }
