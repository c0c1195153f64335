use Prim.Native.Nat.{suc}
use Rattle.theory.specs.Orders.Decisions.{leb-test}
use Rattle.common.proofs.orders.InverseLetterOrder.precedes.Goals as goal

pub returns : goal.returns
returns c = leb-test (suc c.args.b) c.args.a
