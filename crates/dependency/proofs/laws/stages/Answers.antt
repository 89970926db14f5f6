use Rattle.dependency.proofs.Climbs.{staged_acyclic}
use Rattle.dependency.proofs.Staging.{acyclic_staged}
use Rattle.dependency.proofs.laws.stages.Goals as goal

pub returns : goal.returns
returns c = record { exist = acyclic_staged; acyclic = staged_acyclic }
