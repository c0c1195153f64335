-- Each turn tells one cut by its note and by the first end that is left, and writes it if it is a break.
use mathlib.Core.Logic.{inl, inr}
use Prim.Native.Nat.{◌+◌, ◌*◌, ◌≤◌, ◌<◌}
use native.Mathlib.Omega.{arith}
use lib.ListN.{length}
use Rattle.words.specs.Words.{most_letters}
use Rattle.fates.proofs.Writing.{write-starts, note-inside, near-at, room_at, next-inside, write-on, writes-all, write-ends}
use Rattle.fates.proofs.write_breaks.Goals as goal
use Rattle.fates.proofs.write_breaks.Goals.{Else-all-at, then-place-end, else-place-end}

-- the note and the end lie in the work buffer, and all numbers are small
inside-at : (c : Else-all-at) → ((length c.args.word.now + 2 * c.loop-k.k + 1 < length c.args.work.now) × (c.loop-k.next < most_letters)
    × (c.loop-k.k < length c.args.word.now) × (length c.args.word.now ≤ most_letters))
inside-at c = let note = note-inside _ _ _ _ c.requires _ _ _ _ _ _ c.loop-k.invariant c.if-all-at.false in
    (note.0, omega (arith, c.loop-k.invariant.inside, c.requires.room.short), note.1, c.requires.room.short)

pub overflow_mul-all : goal.overflow_mul-all
overflow_mul-all c = omega (arith, c.requires.entries, c.well_formed)

pub offset_bounds-work-next : goal.offset_bounds-work-next
offset_bounds-work-next c = omega (arith, c.requires.inside, c.requires.room.short)

pub bounds-work-next : goal.bounds-work-next
bounds-work-next c = omega (arith, c.requires.inside, c.requires.room.entries)

pub loop-k-init : goal.loop-k-init
loop-k-init c = write-starts _ _ _ _ c.requires

pub overflow_mul-place : goal.overflow_mul-place
overflow_mul-place c = omega (arith, inside-at (goal.at.overflow_mul-place c).Else-all-at)

pub overflow_add-place : goal.overflow_add-place
overflow_add-place c = omega (arith, inside-at (goal.at.overflow_add-place c).Else-all-at)

pub offset_bounds-work-n : goal.offset_bounds-work-n
offset_bounds-work-n c = omega (arith, inside-at (goal.at.offset_bounds-work-n c).Else-all-at)

pub bounds-work-n : goal.bounds-work-n
bounds-work-n c = omega (arith, inside-at (goal.at.bounds-work-n c).Else-all-at)

pub overflow_mul-border : goal.overflow_mul-border
overflow_mul-border c = omega (arith, inside-at (goal.at.overflow_mul-border c).Else-all-at)

pub overflow_add-border : goal.overflow_add-border
overflow_add-border c = omega (arith, inside-at (goal.at.overflow_add-border c).Else-all-at)

pub overflow_add-border-in-loop-k : goal.overflow_add-border-in-loop-k
overflow_add-border-in-loop-k c = omega (arith, inside-at (goal.at.overflow_add-border-in-loop-k c).Else-all-at)

pub offset_bounds-work-n-in-loop-k : goal.offset_bounds-work-n-in-loop-k
offset_bounds-work-n-in-loop-k c = omega (arith, inside-at (goal.at.offset_bounds-work-n-in-loop-k c).Else-all-at)

pub bounds-work-n-in-loop-k : goal.bounds-work-n-in-loop-k
bounds-work-n-in-loop-k c = omega (arith, inside-at (goal.at.bounds-work-n-in-loop-k c).Else-all-at)

pub write_if_break-at-requires : goal.write_if_break-at-requires
write_if_break-at-requires c = (
  near-at _ _ _ _ c.requires _ _ _ _ _ _ c.loop-k.invariant c.if-all-at.false,
  room_at _ _ _ _ c.requires _ _ _ _ _ _ c.loop-k.invariant c.if-all-at.false,
)

pub overflow_add-next : goal.overflow_add-next
overflow_add-next c = omega (arith, inside-at (goal.at.overflow_add-next c).Else-all-at)

pub offset_bounds-work-next-then-place-end : goal.offset_bounds-work-next-then-place-end
offset_bounds-work-next-then-place-end c = omega (arith, inside-at (goal.at.offset_bounds-work-next-then-place-end c).Else-all-at)

pub bounds-work-next-then-place-end : goal.bounds-work-next-then-place-end
bounds-work-next-then-place-end c =
    omega (arith, next-inside _ _ _ _ c.requires _ _ _ _ _ _ c.loop-k.invariant c.if-all-at.false c.if-place-end.true, c.requires.room.entries)

pub loop-k-preserved : goal.loop-k-preserved
loop-k-preserved c =
    write-on _ _ _ _ c.requires _ _ _ _ _ _ c.loop-k.invariant c.if-all-at.false _ _ c.write_if_break-at.ensures _ _
    (elim c.if-place-end.branch [
      | then-place-end w ↦ inl (w.if-place-end.true, w.next-is, w.end-is)
      | else-place-end w ↦ inr (w.if-place-end.false, w.next-is, w.end-is)
    ])

pub shape_of-buffer : goal.shape_of-buffer
shape_of-buffer c = c.loop-k.invariant.long

pub returns-then-all-at : goal.returns-then-all-at
returns-then-all-at c = write-ends _ _ _ _ c.requires _ _ _ _ _ _ c.loop-k.invariant c.if-all-at.true

pub returns : goal.returns
returns c =
    let all-written = writes-all _ _ _ _ c.requires _ _ _ _ _ _ c.loop-k.invariant (omega (arith, c.loop-k-test.false)) in
    write-ends _ _ _ _ c.requires _ _ _ _ _ _ c.loop-k.invariant all-written
