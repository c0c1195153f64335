-- The first digit, then one more in each turn; what is left of the text says what the number is (Digits).
use native.Mathlib.Omega.{arith}
use Rattle.parsing.proofs.NumberLoop.{none_left, none_first, digits-begin}
use Rattle.parsing.proofs.NumberLoop.{digits-done, digits-read, digits-leading, digits_above, digits-on}
use Rattle.parsing.proofs.read_number.Goals as goal

pub returns-in_err-first : goal.returns-in_err-first
returns-in_err-first c = rw c.from_residual.ensures (none_left c.args.text.now c.args.at (omega (arith, c.in_err-first.ensures.lookup)))

pub returns-in_err-value : goal.returns-in_err-value
returns-in_err-value c =
    let h = c.in_ok-first.ensures.lookup.3 in
    rw c.from_residual-in_err-value.ensures (none_first c.args.text.now c.args.at h.0 (h.1 0) c.in_err-value.ensures)

pub loop-end-init : goal.loop-end-init
loop-end-init c =
    let h = c.in_ok-first.ensures.lookup.3 in
    digits-begin c.args.text.now c.args.at h.0 (h.1 0) _ c.in_ok-value.ensures

pub returns-in_default : goal.returns-in_default
returns-in_default c = digits-read c.loop-end.invariant c.loop-end-test.true c.in_default.ensures

pub returns-then-value-eq0 : goal.returns-then-value-eq0
returns-then-value-eq0 c = digits-leading c.loop-end.invariant c.loop-end-test.true _ c.in-Some.ensures c.if-value-eq0.true

pub returns-then-value-gt-MOST_NUMBER : goal.returns-then-value-gt-MOST_NUMBER
returns-then-value-gt-MOST_NUMBER c =
    digits_above c.loop-end.invariant c.loop-end-test.true _ c.in-Some.ensures c.if-value-eq0.false c.if-value-gt-MOST_NUMBER.true

pub loop-end-preserved : goal.loop-end-preserved
loop-end-preserved c =
    digits-on c.loop-end.invariant c.loop-end-test.true _ c.in-Some.ensures c.if-value-eq0.false c.if-value-gt-MOST_NUMBER.false

pub returns : goal.returns
returns c = digits-done c.loop-end.invariant c.loop-end-test.false
