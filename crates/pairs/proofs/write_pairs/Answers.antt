-- Each turn counts one piece; the pairs so far and those still to come are all pairs.
use mathlib.Core.Path.{◌≡◌}
use Prim.Native.Nat.{◌+◌, ◌*◌, ◌≤◌, ◌<◌}
use native.Mathlib.Omega.{arith}
use lib.ListN.{length, get_or}
use Rattle.words.specs.Separated.{separated_cfl_in_ends}
use Rattle.buffers.proofs.PartLaws.{part}
use Rattle.pairs.proofs.PairingLaws.{pairing-starts, piece_inside, count-few, pairing-on, pairing-ends}
use Rattle.pairs.proofs.write_pairs.Goals as goal
use Rattle.pairs.proofs.write_pairs.Goals.{After-from-in-loop-i, After-count_inside}

inside : (c : After-from-in-loop-i) → (c.from.result < c.from-in-loop-i.result) × (c.from-in-loop-i.result ≤ length c.args.word.now)
inside c = rw (c.from.ensures, c.from-in-loop-i.ensures) (piece_inside c.loop-i.invariant c.loop-i-test.true)

counted : (c : After-count_inside)
    → c.count_inside.result ≡ length (separated_cfl_in_ends (part c.loop-i.from (get_or c.args.ends.now c.loop-i.i 0) c.args.word.now))
counted c = rw (c.from.ensures, c.from-in-loop-i.ensures) at c.count_inside.ensures

pub loop-i-init : goal.loop-i-init
loop-i-init c = pairing-starts _ _ _ c.requires.right

pub slice_bounds-factor-count : goal.slice_bounds-factor-count
slice_bounds-factor-count c = omega (arith, inside (goal.at.slice_bounds-factor-count c).After-from-in-loop-i)

pub slice_bounds-factor-start : goal.slice_bounds-factor-start
slice_bounds-factor-start c = omega (arith, inside (goal.at.slice_bounds-factor-start c).After-from-in-loop-i)

pub slice_bounds-factor-end : goal.slice_bounds-factor-end
slice_bounds-factor-end c = omega (arith, inside (goal.at.slice_bounds-factor-end c).After-from-in-loop-i)

pub overflow_cast-pairs : goal.overflow_cast-pairs
overflow_cast-pairs c =
    let few = count-few c.loop-i.invariant c.loop-i-test.true (counted (goal.at.overflow_cast-pairs c).After-count_inside) in
    omega (arith, few, c.requires.short)

pub loop-i-preserved : goal.loop-i-preserved
loop-i-preserved c =
    let room : 2 * c.loop-i.i + 1 < length c.loop-i.pairs = omega (arith, c.loop-i-test.true, c.loop-i.invariant.long, c.requires.entries) in
    pairing-on c.loop-i.invariant c.loop-i-test.true (counted (goal.at.loop-i-preserved c).After-count_inside) room

pub returns : goal.returns
returns c = pairing-ends c.loop-i.invariant c.loop-i-test.false
