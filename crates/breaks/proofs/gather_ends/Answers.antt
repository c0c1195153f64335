-- From entry top on stand the ends of what follows the cuts that are left; each turn takes one cut off, and keeps its place or not.
use Prim.Native.Nat.{◌+◌, ◌-◌, ◌*◌, ◌≤◌, ◌<◌}
use native.Mathlib.Omega.{arith}
use lib.ListN.{length, set, length-set}
use Rattle.words.specs.Words.{most_letters}
use Rattle.cuts.specs.Cutting.{CutRoom}
use Rattle.breaks.proofs.GatherLaws.{started-room, gather-starts, few, top-inside, note-inside, top-positive, joined-on, kept_on, gather-ends}
use Rattle.breaks.proofs.gather_ends.Goals as goal
use Rattle.breaks.proofs.gather_ends.Goals.{In-loop-k}

-- the buffer with which the loop begins
room_at : (c : In-loop-k) → (CutRoom c.args.word.now (set c.args.work.now (length c.args.word.now - 1) (length c.args.word.now)))
room_at c = started-room _ _ c.args.count c.requires.0 c.requires.1

-- a cut's two entries lie in the buffer, and all numbers are small
inside-at : (c : In-loop-k) → ((length c.args.word.now + 2 * (c.loop-k.k - 1) + 1 < length c.loop-k.work) × (c.loop-k.top < length c.loop-k.work)
    × (c.loop-k.top < length c.args.word.now) × (c.loop-k.k ≤ most_letters) × (length c.args.word.now ≤ most_letters) × (0 < c.loop-k.top))
inside-at c = let inv = c.loop-k.invariant in
    let room = room_at c in (
      note-inside _ _ _ _ _ _ _ room inv c.loop-k-test.true,
      top-inside _ _ _ _ _ _ _ room inv,
      inv.high,
      omega (arith, inv.upto, few _ _ _ _ _ _ _ room inv, c.requires.0.short),
      c.requires.0.short,
      top-positive _ _ _ _ _ _ _ room inv c.loop-k-test.true,
    )

pub overflow_sub-top : goal.overflow_sub-top
overflow_sub-top c = omega (arith, c.requires.0.nonempty)

pub overflow_cast-work : goal.overflow_cast-work
overflow_cast-work c = omega (arith, c.requires.0.short)

pub offset_bounds-work-top : goal.offset_bounds-work-top
offset_bounds-work-top c = omega (arith, c.requires.0.short)

pub bounds-work-top : goal.bounds-work-top
bounds-work-top c = omega (arith, c.requires.0.entries, c.requires.0.nonempty)

pub loop-k-init : goal.loop-k-init
loop-k-init c = gather-starts _ _ _ c.requires.0 c.requires.1

pub overflow_mul-place : goal.overflow_mul-place
overflow_mul-place c = omega (arith, inside-at (goal.at.overflow_mul-place c).In-loop-k)

pub overflow_add-place : goal.overflow_add-place
overflow_add-place c = omega (arith, inside-at (goal.at.overflow_add-place c).In-loop-k)

pub offset_bounds-work-n : goal.offset_bounds-work-n
offset_bounds-work-n c = omega (arith, inside-at (goal.at.offset_bounds-work-n c).In-loop-k)

pub bounds-work-n : goal.bounds-work-n
bounds-work-n c = omega (arith, inside-at (goal.at.bounds-work-n c).In-loop-k)

pub overflow_cast-place : goal.overflow_cast-place
overflow_cast-place c = omega (arith, (c.slice_known-1.given (length c.args.word.now + 2 * (c.loop-k.k - 1))).fits)

pub overflow_mul-border : goal.overflow_mul-border
overflow_mul-border c = omega (arith, inside-at (goal.at.overflow_mul-border c).In-loop-k)

pub overflow_add-border : goal.overflow_add-border
overflow_add-border c = omega (arith, inside-at (goal.at.overflow_add-border c).In-loop-k)

pub overflow_add-border-in-loop-k : goal.overflow_add-border-in-loop-k
overflow_add-border-in-loop-k c = omega (arith, inside-at (goal.at.overflow_add-border-in-loop-k c).In-loop-k)

pub offset_bounds-work-n-in-loop-k : goal.offset_bounds-work-n-in-loop-k
offset_bounds-work-n-in-loop-k c = omega (arith, inside-at (goal.at.offset_bounds-work-n-in-loop-k c).In-loop-k)

pub bounds-work-n-in-loop-k : goal.bounds-work-n-in-loop-k
bounds-work-n-in-loop-k c = omega (arith, inside-at (goal.at.bounds-work-n-in-loop-k c).In-loop-k)

pub overflow_cast-border : goal.overflow_cast-border
overflow_cast-border c =
    omega (arith, (c.slice_known-in-loop-k-1.given (length c.args.word.now + 2 * (c.loop-k.k - 1) + 1)).fits)

pub overflow_add-place-in-loop-k : goal.overflow_add-place-in-loop-k
overflow_add-place-in-loop-k c =
    let i = length c.args.word.now + 2 * (c.loop-k.k - 1) in
    omega (arith, (c.slice_known-1.given i).fits, (c.slice_known-in-loop-k-1.given (i + 1)).fits)

pub overflow_sub-top-then-place-border : goal.overflow_sub-top-then-place-border
overflow_sub-top-then-place-border c = omega (arith, inside-at (goal.at.overflow_sub-top-then-place-border c).In-loop-k)

pub overflow_cast-work-then-place-border : goal.overflow_cast-work-then-place-border
overflow_cast-work-then-place-border c =
    omega (arith, (c.slice_known-1.given (length c.args.word.now + 2 * (c.loop-k.k - 1))).fits)

pub offset_bounds-work-top-then-place-border : goal.offset_bounds-work-top-then-place-border
offset_bounds-work-top-then-place-border c = omega (arith, inside-at (goal.at.offset_bounds-work-top-then-place-border c).In-loop-k)

pub bounds-work-top-then-place-border : goal.bounds-work-top-then-place-border
bounds-work-top-then-place-border c = omega (arith, inside-at (goal.at.bounds-work-top-then-place-border c).In-loop-k)

pub loop-k-preserved-then-place-border : goal.loop-k-preserved-then-place-border
loop-k-preserved-then-place-border c =
    kept_on _ _ _ _ _ _ _ (room_at (goal.at.loop-k-preserved-then-place-border c).In-loop-k) c.loop-k.invariant c.loop-k-test.true c.if-place-border.true

pub loop-k-preserved : goal.loop-k-preserved
loop-k-preserved c =
    joined-on _ _ _ _ _ _ _ (room_at (goal.at.loop-k-preserved c).In-loop-k) c.loop-k.invariant c.loop-k-test.true c.if-place-border.false

pub shape_of-work : goal.shape_of-work
shape_of-work c = rw length-set at c.loop-k.invariant.long

pub returns : goal.returns
returns c = gather-ends _ _ _ _ _ _ _ c.requires.0 c.loop-k.invariant c.loop-k-test.false
