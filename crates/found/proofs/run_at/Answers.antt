-- What was counted to both sides is what the candidate asks, in the order of the tests.
use native.Mathlib.Omega.{arith}
use mathlib.Core.Path.{◌≡◌}
use mathlib.Core.List.{List}
use mir.Syntax.{w8}
use mir.Val.{Fits}
use Prim.Native.Nat.{ℕ, ◌+◌, ◌≤◌}
use lib.ListN.{length, get_or}
use Rattle.theory.specs.Orders.Decisions.{decides-true, decides-false}
use Rattle.buffers.proofs.PartLaws.{rest}
use Rattle.words.specs.Words.{common_length_of}
use Rattle.theory.specs.Repetitions.Found.{left_of, found_period}
use Rattle.found.specs.Found.{PlaceKnown}
use Rattle.common.specs.Orders.{most_byte}
use Rattle.found.proofs.FoundLaws.{none_left, far-left, too_short, not-counted, one_found, right-inside, period-inside, left-inside}
use Rattle.found.proofs.run_at.Goals as goal

-- the period stays inside
inside-here : (w longest : List ℕ) (i : ℕ) → ((k : ℕ) → Fits w8 (get_or w k 0)) → PlaceKnown w longest i → {p : ℕ} → p ≡ found_period most_byte w i
    → i + p ≤ length w
inside-here w longest i f k e = rw e (period-inside w (λ t. omega (arith, (f t).fits)) i k.known.inside)

-- and so does the end
end-here : (w longest : List ℕ) (i : ℕ) → ((k : ℕ) → Fits w8 (get_or w k 0)) → PlaceKnown w longest i → {p l r : ℕ} → p ≡ found_period most_byte w i
    → l ≡ left_of w i p → r ≡ common_length_of (rest i w) (rest (i + p) w) → i + p + r ≤ length w
end-here w longest i f k {p} e le re = right-inside w i p le re (inside-here w longest i f k e)

left-here : (w : List ℕ) (i p : ℕ) {l : ℕ} → l ≡ left_of w i p → l ≤ i
left-here w i p e = rw e (left-inside w i p)

pub left_of-left-requires : goal.left_of-left-requires
left_of-left-requires c = record { inside = inside-here _ _ _ c.type_inv.word c.requires c.period_at-period.ensures }

pub returns-then-left-eq0 : goal.returns-then-left-eq0
returns-then-left-eq0 c =
    let a = c.args in
    rw (← c.period_at-period.ensures) (none_left a.word.now a.i _ _ c.left_of-left.ensures c.if-left-eq0.true)

pub returns-then-period-left : goal.returns-then-period-left
returns-then-period-left c =
    let a = c.args in
    rw (← c.period_at-period.ensures) (far-left a.word.now a.i _ _ c.left_of-left.ensures c.if-period-left.true)

pub overflow_add-i : goal.overflow_add-i
overflow_add-i c = omega (arith, inside-here _ _ _ c.type_inv.word c.requires c.period_at-period.ensures)

pub slice_bounds-common_length-count-2 : goal.slice_bounds-common_length-count-2
slice_bounds-common_length-count-2 c = omega (arith, inside-here _ _ _ c.type_inv.word c.requires c.period_at-period.ensures)

pub slice_bounds-common_length-start-2 : goal.slice_bounds-common_length-start-2
slice_bounds-common_length-start-2 c = omega (arith, inside-here _ _ _ c.type_inv.word c.requires c.period_at-period.ensures)

pub overflow_add-left : goal.overflow_add-left
overflow_add-left c =
    let left = c.left_of-left.ensures in
    omega (arith, end-here _ _ _ c.type_inv.word c.requires c.period_at-period.ensures left c.common_length-right.ensures, left-here _ _ _ left)

pub returns-then-left-right : goal.returns-then-left-right
returns-then-left-right c =
    let a = c.args in
    rw (← c.period_at-period.ensures)
    (too_short a.word.now a.i c.period_at-period.result c.left_of-left.ensures c.common_length-right.ensures c.if-left-right.true)

pub overflow_add-end : goal.overflow_add-end
overflow_add-end c = omega (arith, end-here _ _ _ c.type_inv.word c.requires c.period_at-period.ensures c.left_of-left.ensures c.common_length-right.ensures)

pub overflow_add-end-2 : goal.overflow_add-end-2
overflow_add-end-2 c = omega (arith, end-here _ _ _ c.type_inv.word c.requires c.period_at-period.ensures c.left_of-left.ensures c.common_length-right.ensures)

pub returns-then-not-stands_for : goal.returns-then-not-stands_for
returns-then-not-stands_for c =
    let a = c.args in
    rw (← c.period_at-period.ensures)
    (not-counted a.word.now a.i c.period_at-period.result c.left_of-left.ensures c.common_length-right.ensures
    (decides-false c.stands_for.ensures c.if-not-stands_for.true))

pub overflow_sub-result : goal.overflow_sub-result
overflow_sub-result c = omega (arith, left-here _ _ _ c.left_of-left.ensures)

pub returns : goal.returns
returns c =
    let a = c.args in
    rw (← c.period_at-period.ensures)
    (one_found a.word.now a.i c.period_at-period.result c.left_of-left.ensures c.common_length-right.ensures
    c.if-left-eq0.false c.if-period-left.false c.if-left-right.false
    (decides-true c.stands_for.ensures c.if-not-stands_for.false))
