-- Each turn cuts the rest once and notes the cut; the rest then begins there.
use mathlib.Core.Path.{sym, ◌∙◌}
use Prim.Native.Nat.{◌+◌, ◌*◌, ◌≤◌, ◌<◌}
use native.Mathlib.Omega.{arith}
use lib.ListN.{length, drop, length-set}
use Rattle.words.specs.Words.{most_letters}
use Rattle.theory.specs.Stretches.CutSteps.{CutBy}
use Rattle.cuts.proofs.Finding.{find-starts, breaks-few, find-fits, find-ends, cut_by, cut_inside, find-beside, find-break}
use Rattle.cuts.proofs.find_cuts.Goals as goal
use Rattle.cuts.proofs.find_cuts.Goals.{In-Some}

-- the cut that was found
cut-at : (c : In-Some) → (CutBy (drop c.loop-from.from c.args.word.now) c.in-Some.cut.prefix c.in-Some.cut.border)
cut-at c = cut_by _ _ _ _ _ _ _ _ c.loop-from.invariant _ c.first_cut-found.ensures c.in-Some.is

-- it lies inside the word, both entries of its note inside the buffer, and all numbers are small
inside-at : (c : In-Some) → (let word = c.args.word.now in
    (c.loop-from.from + c.in-Some.cut.prefix + c.in-Some.cut.border < length word)
    × (length word + 2 * c.loop-from.cuts + 1 < length c.first_cut-found.new.work) × (c.loop-from.cuts < most_letters) × (length word ≤ most_letters)
    × (0 < c.in-Some.cut.prefix))
inside-at c = let inv = c.loop-from.invariant in
    let room = c.requires in (
      cut_inside _ _ _ _ _ _ _ _ inv _ c.first_cut-found.ensures c.in-Some.is,
      omega (arith, inv.few, inv.inside, inv.long, c.first_cut-found.auto, room.entries),
      omega (arith, inv.few, inv.inside, room.short),
      room.short,
      (cut-at c).positive,
    )

-- the buffer still has its three entries a letter
room-after : (c : In-Some) → 3 * length c.args.word.now ≤ length c.first_cut-found.new.work
room-after c = omega (arith, c.loop-from.invariant.long, c.first_cut-found.auto, c.requires.entries)

pub loop-from-init : goal.loop-from-init
loop-from-init c = find-starts _ _ c.requires

pub slice_bounds-first_cut-count : goal.slice_bounds-first_cut-count
slice_bounds-first_cut-count c = omega (arith, c.loop-from.invariant.inside)

pub first_cut-found-requires : goal.first_cut-found-requires
first_cut-found-requires c = find-fits _ _ _ _ _ _ _ c.requires c.loop-from.invariant

pub returns-in_default : goal.returns-in_default
returns-in_default c =
    find-ends _ _ _ _ _ _ _ _ c.loop-from.invariant _ c.first_cut-found.ensures c.in_default.is

pub overflow_add-from : goal.overflow_add-from
overflow_add-from c = omega (arith, inside-at (goal.at.overflow_add-from c).In-Some)

pub overflow_cast-work : goal.overflow_cast-work
overflow_cast-work c = omega (arith, inside-at (goal.at.overflow_cast-work c).In-Some)

pub overflow_mul-work : goal.overflow_mul-work
overflow_mul-work c = omega (arith, inside-at (goal.at.overflow_mul-work c).In-Some)

pub overflow_add-work : goal.overflow_add-work
overflow_add-work c = omega (arith, inside-at (goal.at.overflow_add-work c).In-Some, c.loop-from.invariant.size)

pub offset_bounds-work-n : goal.offset_bounds-work-n
offset_bounds-work-n c = omega (arith, inside-at (goal.at.offset_bounds-work-n c).In-Some, c.loop-from.invariant.size)

pub bounds-work-n : goal.bounds-work-n
bounds-work-n c = omega (arith, inside-at (goal.at.bounds-work-n c).In-Some)

pub overflow_cast-work-in-loop-from : goal.overflow_cast-work-in-loop-from
overflow_cast-work-in-loop-from c = omega (arith, inside-at (goal.at.overflow_cast-work-in-loop-from c).In-Some)

pub overflow_mul-work-in-loop-from : goal.overflow_mul-work-in-loop-from
overflow_mul-work-in-loop-from c = omega (arith, inside-at (goal.at.overflow_mul-work-in-loop-from c).In-Some)

pub overflow_add-work-in-loop-from : goal.overflow_add-work-in-loop-from
overflow_add-work-in-loop-from c = omega (arith, inside-at (goal.at.overflow_add-work-in-loop-from c).In-Some, c.loop-from.invariant.size)

pub overflow_add-work-in-loop-from-2 : goal.overflow_add-work-in-loop-from-2
overflow_add-work-in-loop-from-2 c = omega (arith, inside-at (goal.at.overflow_add-work-in-loop-from-2 c).In-Some, c.loop-from.invariant.size)

pub offset_bounds-work-n-in-loop-from : goal.offset_bounds-work-n-in-loop-from
offset_bounds-work-n-in-loop-from c = omega (arith, inside-at (goal.at.offset_bounds-work-n-in-loop-from c).In-Some, c.loop-from.invariant.size)

pub bounds-work-n-in-loop-from : goal.bounds-work-n-in-loop-from
bounds-work-n-in-loop-from c = simp length-set (omega (arith, inside-at (goal.at.bounds-work-n-in-loop-from c).In-Some))

pub overflow_add-cuts : goal.overflow_add-cuts
overflow_add-cuts c = omega (arith, inside-at (goal.at.overflow_add-cuts c).In-Some)

pub beside_separator-requires : goal.beside_separator-requires
beside_separator-requires c = let inside = inside-at (goal.at.beside_separator-requires c).In-Some in (omega (arith, inside), omega (arith, inside))

pub overflow_add-breaks : goal.overflow_add-breaks
overflow_add-breaks c =
    omega (arith, inside-at (goal.at.overflow_add-breaks c).In-Some, breaks-few c.loop-from.invariant)

pub loop-from-smaller-then-not-beside_separator : goal.loop-from-smaller-then-not-beside_separator
loop-from-smaller-then-not-beside_separator c =
    omega (arith, inside-at (goal.at.loop-from-smaller-then-not-beside_separator c).In-Some, c.loop-from.invariant.size)

pub loop-from-preserved-then-not-beside_separator : goal.loop-from-preserved-then-not-beside_separator
loop-from-preserved-then-not-beside_separator c =
    find-break _ _ _ _ _ _ _ _ c.loop-from.invariant _ c.first_cut-found.ensures c.in-Some.is
    (room-after (goal.at.loop-from-preserved-then-not-beside_separator c).In-Some) c.first_cut-found.auto.work
    (sym c.beside_separator.ensures ∙ c.if-not-beside_separator.true)

pub loop-from-smaller : goal.loop-from-smaller
loop-from-smaller c =
    omega (arith, inside-at (goal.at.loop-from-smaller c).In-Some, c.loop-from.invariant.size)

pub loop-from-preserved : goal.loop-from-preserved
loop-from-preserved c =
    find-beside _ _ _ _ _ _ _ _ c.loop-from.invariant _ c.first_cut-found.ensures c.in-Some.is
    (room-after (goal.at.loop-from-preserved c).In-Some) c.first_cut-found.auto.work
    (sym c.beside_separator.ensures ∙ c.if-not-beside_separator.false)

pub returns : goal.returns
returns c = absurd (omega (arith, c.loop-from.invariant.inside, c.loop-from.invariant.size, c.loop-from-test.false))
