use Prim.Native.Nat.{suc}
use Rattle.theory.specs.Orders.Decisions.{leb-test}
use Rattle.common.proofs.orders.NaturalLetterOrder.precedes.Goals as goal

pub returns : goal.returns
returns c = leb-test (suc c.args.a) c.args.b
