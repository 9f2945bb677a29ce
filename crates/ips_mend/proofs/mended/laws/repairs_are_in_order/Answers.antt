use Rattle.ips_mend.proofs.mended.Ordered.{order_is}
use Rattle.ips_mend.proofs.mended.laws.repairs_are_in_order.Goals as goal

pub returns : goal.returns
returns c = λ f t good records. order_is f t good records
