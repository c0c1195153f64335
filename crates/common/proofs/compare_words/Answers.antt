use Rattle.letters.proofs.OrderLaws.{prefix-ordered}
use Rattle.common.proofs.compare_words.Goals as goal

pub returns-in-None : goal.returns-in-None
returns-in-None c = prefix-ordered c.in-None.ensures c.prefix_order.ensures
