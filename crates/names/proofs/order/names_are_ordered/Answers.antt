use Rattle.names.proofs.TotalOrder.{names_ordered}
use Rattle.names.proofs.order.names_are_ordered.Goals as goal

pub returns : goal.returns
returns g c = names_ordered _
