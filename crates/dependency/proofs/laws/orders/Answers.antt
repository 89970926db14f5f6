use Rattle.expansion_tree.specs.Standing.{selections}
use Rattle.dependency.proofs.Reaching.{acyclic_order}
use Rattle.dependency.proofs.laws.orders.Goals as goal

pub returns : goal.returns
returns c t s acyclic = acyclic_order t (selections s) acyclic
