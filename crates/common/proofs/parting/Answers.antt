-- The letters read so far are equal, and their number is a multiple of eight; so eight more are there while the loop goes on.
use native.Mathlib.Omega.{arith}
use Rattle.common.proofs.NumberLaws.{equal-numbers, numbers-part}
use Rattle.common.proofs.parting.Goals as goal

pub returns-then-v-w : goal.returns-then-v-w
returns-then-v-w c =
    numbers-part _ _ _ _ _ c.eight_at-v.ensures c.eight_at-w.ensures c.loop-l.invariant.0 c.if-v-w.true c.equal_bytes.ensures

pub loop-l-preserved : goal.loop-l-preserved
loop-l-preserved c = (
  equal-numbers _ _ _ _ _ c.eight_at-v.ensures c.eight_at-w.ensures c.loop-l.invariant.0 c.if-v-w.false,
  omega (arith, c.loop-l.invariant.1),
)
