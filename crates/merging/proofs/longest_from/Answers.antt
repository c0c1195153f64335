-- The word from i to j is anti-Lyndon; the longest word at j joins it if it comes after it, and else nothing longer begins at i.
use borrow.Author.Rules.{rules}
use mathlib.Core.List.{List}
use Prim.Native.Nat.{ℕ, ◌<◌}
use native.Mathlib.Omega.{arith}
use lib.ListN.{length, get_or}
use Rattle.theory.specs.Orders.Decisions.{decides-true, decides-false}
use Rattle.theory.specs.Table.Merging.{Merged}
use Rattle.merging.specs.Steps.{MergedTo}
use Rattle.merging.proofs.MergeLaws.{Merging, turn-begins, turn-fits, turn-joins, turn-stops, turns-end}
use Rattle.merging.proofs.longest_from.Goals as goal

merging-at : {w out : List ℕ} {i from j : ℕ} → MergedTo w out i from → Merged w i j → j < length w → Merging w i j (get_or out j 0)
merging-at a m h = record { letters = a.after.letters; merged = m; entry = a.after.entries _ m.after h }

pub slice_bounds-comes_before-end-in-loop-j : goal.slice_bounds-comes_before-end-in-loop-j
slice_bounds-comes_before-end-in-loop-j c = omega (arith, turn-fits (merging-at c.requires c.loop-j.invariant c.loop-j-test.true))

pub comes_before-requires : goal.comes_before-requires
comes_before-requires c =
    let at_turn = merging-at c.requires c.loop-j.invariant c.loop-j-test.true in
    record { left = search rules; right = omega (arith, turn-begins at_turn c.loop-j-test.true, turn-fits at_turn) }

pub returns-then-not-comes_before : goal.returns-then-not-comes_before
returns-then-not-comes_before c =
    turn-stops (merging-at c.requires c.loop-j.invariant c.loop-j-test.true) c.requires.below
    (decides-false c.comes_before.ensures c.if-not-comes_before.true)

pub loop-j-smaller : goal.loop-j-smaller
loop-j-smaller c = omega (arith, turn-begins (merging-at c.requires c.loop-j.invariant c.loop-j-test.true) c.loop-j-test.true)

pub loop-j-preserved : goal.loop-j-preserved
loop-j-preserved c =
    turn-joins (merging-at c.requires c.loop-j.invariant c.loop-j-test.true) c.requires.below
    (decides-true c.comes_before.ensures c.if-not-comes_before.false)

pub returns : goal.returns
returns c = turns-end c.requires.below c.loop-j.invariant c.loop-j-test.false
