-- The run goes before all that are from place k on; the one before it comes later too, or the place is found.
use native.Mathlib.Omega.{arith}
use Rattle.theory.specs.Orders.Decisions.{decides-true, decides-false}
use Rattle.inserting.proofs.Placing.{ahead-starts, ahead-on, ahead-stops}
use Rattle.inserting.proofs.place_of.Goals as goal

pub loop-k-init : goal.loop-k-init
loop-k-init c = ahead-starts _ _ _ c.requires

pub returns-then-not-comes_later : goal.returns-then-not-comes_later
returns-then-not-comes_later c =
    ahead-stops _ _ _ c.requires c.loop-k.invariant (omega (arith, c.loop-k-test.true))
    (decides-false c.comes_later.ensures c.if-not-comes_later.true)

pub loop-k-preserved : goal.loop-k-preserved
loop-k-preserved c =
    ahead-on _ _ _ c.requires c.loop-k.invariant (omega (arith, c.loop-k-test.true))
    (decides-true c.comes_later.ensures c.if-not-comes_later.false)
