-- First letters that differ decide; else the words agree as far as what follows these does, and part there or end.
use native.Mathlib.Omega.{arith}
use Rattle.common.proofs.InOrderLaws.{bytes, agree-first, agree-next, rest-length, parted-decide, ends-decide}
use Rattle.common.proofs.orders.comes_before.Goals as goal

pub returns-then-b-a : goal.returns-then-b-a
returns-then-b-a g c =
    parted-decide _ _ _ (bytes _ c.type_inv.u) (bytes _ c.type_inv.v) (agree-first _ _ c.if-b-a.true) c.requires.left c.requires.right c.precedes.ensures

pub returns-in-Some : goal.returns-in-Some
returns-in-Some g c =
    let parted = c.in-Some.ensures in
    parted-decide _ _ _ (bytes _ c.type_inv.u) (bytes _ c.type_inv.v) (agree-next c.requires c.if-b-a.false parted.agree)
    (omega (arith, parted.left, rest-length c.args.u.now)) (omega (arith, parted.right, rest-length c.args.v.now)) c.precedes-in-Some.ensures

pub returns-in-None : goal.returns-in-None
returns-in-None g c =
    ends-decide _ _ _ (bytes _ c.type_inv.u) (bytes _ c.type_inv.v) (agree-next c.requires c.if-b-a.false c.in-None.ensures)
    (omega (arith, rest-length c.args.u.now, rest-length c.args.v.now))
