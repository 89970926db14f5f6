use Rattle.etps_session.proofs.Orders.{ordered}
use Rattle.etps_session.proofs.laws.orders.Goals as goal

pub returns : goal.returns
returns c = ordered
