use Rattle.letters.proofs.OrderLaws.{prefix-signed}
use Rattle.letters.proofs.prefix_order.Goals as goal

pub returns : goal.returns
returns c = record { sign-is = prefix-signed _ _ _ c.cmp.ensures; common-is = c.min.ensures }
