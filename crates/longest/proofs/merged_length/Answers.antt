-- The word from i to j is a Lyndon word of the order; the longest one at j joins it if it comes after it, and else nothing longer begins at i.
use borrow.Author.Rules.{rules}
use native.Mathlib.Omega.{arith}
use Rattle.theory.specs.Orders.Decisions.{decides-true, decides-false}
use Rattle.longest.proofs.LongestLaws.{turn-fits, turn-joins, turn-stops, turns-end}
use Rattle.longest.proofs.merged_length.Goals as goal

pub slice_bounds-comes_before-end-in-loop-j : goal.slice_bounds-comes_before-end-in-loop-j
slice_bounds-comes_before-end-in-loop-j g c =
    let fits = turn-fits g.O.LetterOrder.natural c.args.word.now c.loop-j.invariant c.length_in-n.ensures c.loop-j-test.true in
    omega (arith, fits.1)

pub comes_before-requires : goal.comes_before-requires
comes_before-requires g c =
    let fits = turn-fits g.O.LetterOrder.natural c.args.word.now c.loop-j.invariant c.length_in-n.ensures c.loop-j-test.true in
    record { left = search rules; right = omega (arith, fits.0, fits.1) }

pub returns-then-not-comes_before : goal.returns-then-not-comes_before
returns-then-not-comes_before g c =
    let a = c.args in
    turn-stops g.O.LetterOrder.natural a.word.now c.loop-j.invariant c.length_in-n.ensures c.loop-j-test.true
    (decides-false c.comes_before.ensures c.if-not-comes_before.true)

pub loop-j-smaller : goal.loop-j-smaller
loop-j-smaller g c =
    let fits = turn-fits g.O.LetterOrder.natural c.args.word.now c.loop-j.invariant c.length_in-n.ensures c.loop-j-test.true in
    omega (arith, fits.0, fits.1)

pub loop-j-preserved : goal.loop-j-preserved
loop-j-preserved g c =
    let a = c.args in
    turn-joins g.O.LetterOrder.natural a.word.now c.loop-j.invariant c.length_in-n.ensures c.loop-j-test.true
    (decides-true c.comes_before.ensures c.if-not-comes_before.false)

pub returns : goal.returns
returns g c =
    let a = c.args in
    turns-end g.O.LetterOrder.natural a.word.now c.loop-j.invariant c.loop-j-test.false
