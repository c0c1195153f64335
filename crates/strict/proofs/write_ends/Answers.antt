-- Each turn stores one end; the ends so far and those still to come are all ends.
use native.Mathlib.Omega.{arith}
use Rattle.strict.proofs.Storing.{ends_inside, storing_room, storing-end, storing-on, storing-ends}
use Rattle.strict.proofs.write_ends.Goals as goal

pub overflow_cast-ends : goal.overflow_cast-ends
overflow_cast-ends c =
    let at = c.loop-end in
    omega (arith, storing-end at.invariant c.in-Some.ensures.steps c.requires.room, ends_inside c.args.word.now at.count, c.requires.short)

pub bounds-ends-count : goal.bounds-ends-count
bounds-ends-count c = storing_room c.loop-end.invariant c.in-Some.ensures.steps c.requires.room

pub loop-end-preserved : goal.loop-end-preserved
loop-end-preserved c = storing-on c.loop-end.invariant c.in-Some.ensures.steps c.requires.room

pub returns : goal.returns
returns c =
    let all = storing-ends c.loop-end.invariant c.in-None.ensures.steps.0 in
    record { count = all.0; stored = all.1 }
