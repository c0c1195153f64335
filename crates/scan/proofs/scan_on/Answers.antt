-- Each step keeps that the letters read are inverse Lyndon with the state's border as their longest.
use native.Mathlib.Omega.{arith}
use Prim.Native.Nat.{◌<◌}
use lib.ListN.{length}
use Rattle.scan.proofs.StateLaws.{stepped, left-count, left-at}
use Rattle.scan.proofs.scan_on.Goals as goal

pub returns-then-met-new : goal.returns-then-met-new
returns-then-met-new c = record {
  scanned = c.loop-new.invariant.0;
  stops = λ l. rw (left-at _ _ _ _ c.loop-new.invariant.1) at c.if-met-new.true;
}

pub loop-new-preserved : goal.loop-new-preserved
loop-new-preserved c =
    let w = c.args.word.now in
    let at = c.loop-new in
    let read = left-at w c.args.from.length at.new-index at.s.length at.invariant.1 in
    let inside : at.s.length < length w = omega (arith, c.loop-new-test.true, left-count w c.args.from.length, at.invariant.1) in
    let next = stepped w at.s c.step-s.result at.invariant.0 inside (rw read at c.if-met-new.false) (rw read at c.step-s.ensures) in
    (next.scanned, omega (arith, next.longer, at.invariant.1))

pub returns : goal.returns
returns c = record {
  scanned = c.loop-new.invariant.0;
  stops = λ l. absurd (omega (arith, c.loop-new-test.false, left-count c.args.word.now c.args.from.length, c.loop-new.invariant.1));
}
