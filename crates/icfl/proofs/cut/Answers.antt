-- Line 3; the ends are found in the work buffer; then line 4 is tried and the pairs are written; either way the buffer is cleared.
use mathlib.Core.Path.{sym}
use Prim.Native.Nat.{◌*◌, ◌≤◌}
use native.Mathlib.Omega.{arith}
use lib.ListN.{length}
use Rattle.checks.proofs.LineLaws.{passed-up}
use Rattle.cuts.specs.Cutting.{CutRoom}
use Rattle.icfl.proofs.IcflCases.{cut-room, ends-part, work-refused, pairs-tried}
use Rattle.icfl.proofs.cut.Goals as goal
use Rattle.icfl.proofs.cut.Goals.{In_ok-check_work, After-find_ends-found}

room-at : (c : In_ok-check_work) → CutRoom c.args.admitted.letters.now c.args.work.now
room-at c = cut-room c.args.admitted.accepted (sym c.in_ok-check_work.ensures)

-- the entries that will be cleared lie in the work buffer
inside-at : (c : After-find_ends-found) → (3 * length c.args.admitted.letters.now ≤ length c.find_ends-found.new.work)
    × (length c.args.admitted.letters.now ≤ length c.find_ends-found.new.work)
inside-at c =
    let room = cut-room c.args.admitted.accepted (sym c.in_ok-check_work.ensures) in
    (omega (arith, room.entries, c.find_ends-found.auto), omega (arith, room.entries, c.find_ends-found.auto))

pub returns-in_err-check_work : goal.returns-in_err-check_work
returns-in_err-check_work c = rw (passed-up _ c.from_residual.ensures.1) (work-refused _ _ _ c.in_err-check_work.ensures)

pub find_ends-found-requires : goal.find_ends-found-requires
find_ends-found-requires c = room-at (goal.at.find_ends-found-requires c).In_ok-check_work

pub slice_bounds-fill_pairs-end : goal.slice_bounds-fill_pairs-end
slice_bounds-fill_pairs-end c = omega (arith, inside-at (goal.at.slice_bounds-fill_pairs-end c).After-find_ends-found)

pub fill_pairs-filled-requires : goal.fill_pairs-filled-requires
fill_pairs-filled-requires c =
    let inside = inside-at (goal.at.fill_pairs-filled-requires c).After-find_ends-found in
    record { short = c.args.admitted.accepted.short; right = ends-part c.find_ends-found.ensures inside.1 }

pub clear-requires : goal.clear-requires
clear-requires c = omega (arith, inside-at (goal.at.clear-requires c).After-find_ends-found)

pub returns : goal.returns
returns c = pairs-tried _ _ _ (sym c.in_ok-check_work.ensures) c.find_ends-found.ensures c.fill_pairs-filled.ensures c.clear.ensures
