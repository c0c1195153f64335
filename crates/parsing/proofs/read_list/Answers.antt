-- The first number, then the byte of the turn and a number, the two bytes exchanged; what is left of the text says the rest of the list (Listing).
use native.Mathlib.Omega.{arith}
use Rattle.parsing.proofs.ListLoop.{list-none, list-begin, list_done, list-stop, list-broken, list_on}
use Rattle.parsing.proofs.read_list.Goals as goal

pub returns-in_err-end : goal.returns-in_err-end
returns-in_err-end c =
    let a = c.args in
    rw c.from_residual.ensures (list-none a.separators.first a.separators.second a.text.now a.at c.in_err-end.ensures)

pub loop-end-init : goal.loop-end-init
loop-end-init c = list-begin _ _ _ _ c.in_ok-end.ensures

pub returns-then-text-end : goal.returns-then-text-end
returns-then-text-end c = list-stop c.loop-end.invariant c.loop-end-test.true c.if-text-end.true

pub returns-in_err-end-2 : goal.returns-in_err-end-2
returns-in_err-end-2 c =
    rw c.from_residual-in_err-end-2.ensures
    (list-broken c.loop-end.invariant c.loop-end-test.true c.if-text-end.false c.in_err-end-2.ensures)

pub overflow_add-count : goal.overflow_add-count
overflow_add-count c = omega (arith, c.loop-end.invariant.few)

pub loop-end-smaller : goal.loop-end-smaller
loop-end-smaller c = omega (arith, c.in_ok-end-2.ensures.after, c.in_ok-end-2.ensures.inside)

pub loop-end-preserved : goal.loop-end-preserved
loop-end-preserved c =
    rw c.swapped-between.ensures (list_on c.loop-end.invariant c.loop-end-test.true c.if-text-end.false c.in_ok-end-2.ensures)

pub returns : goal.returns
returns c = list_done c.loop-end.invariant c.loop-end-test.false
