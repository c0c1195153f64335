-- Each pair's end is the next of the ends.
use native.Mathlib.Omega.{arith}
use Rattle.totals.proofs.SumLoop.{sum-short, sum-end, sum-next, sum-done}
use Rattle.totals.proofs.sum_pairs.Goals as goal

pub overflow_cast-pair : goal.overflow_cast-pair
overflow_cast-pair c = omega (arith, sum-short c.loop-pair.invariant c.in-Some.ensures.steps)

pub add-requires : goal.add-requires
add-requires c = (_, sum-end c.loop-pair.invariant c.in-Some.ensures.steps)

pub loop-pair-preserved : goal.loop-pair-preserved
loop-pair-preserved c =
    let g = c.loop-pair.invariant in
    let e = c.in-Some.ensures.steps in
    sum-next g e c.add.ensures.counts (c.add.ensures.adds _ (sum-end g e))

pub returns : goal.returns
returns c = sum-done c.loop-pair.invariant c.in-None.ensures.steps
