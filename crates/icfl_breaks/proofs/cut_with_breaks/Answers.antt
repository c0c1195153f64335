-- Line 3; ends and cuts are found in the work buffer; then both lines 4 are tried and both lists are written; either way the buffer is cleared.
use mathlib.Core.Path.{sym}
use Prim.Native.Nat.{◌*◌, ◌≤◌}
use native.Mathlib.Omega.{arith}
use lib.ListN.{length}
use Rattle.checks.proofs.LineLaws.{passed-up}
use Rattle.cuts.specs.Cutting.{CutRoom}
use Rattle.icfl.proofs.IcflCases.{cut-room}
use Rattle.icfl_breaks.proofs.BreaksCases.{breaks-work-refused, breaks-tried}
use Rattle.icfl_breaks.proofs.cut_with_breaks.Goals as goal
use Rattle.icfl_breaks.proofs.cut_with_breaks.Goals.{In_ok-check_work, After-find_ends-found}

room-at : (c : In_ok-check_work) → CutRoom c.args.admitted.letters.now c.args.work.now
room-at c = cut-room c.args.admitted.accepted (sym c.in_ok-check_work.ensures)

-- the entries that will be cleared lie in the work buffer
inside-at : (c : After-find_ends-found) → 3 * length c.args.admitted.letters.now ≤ length c.find_ends-found.new.work
inside-at c =
    let room = cut-room c.args.admitted.accepted (sym c.in_ok-check_work.ensures) in
    omega (arith, room.entries, c.find_ends-found.auto)

pub returns-in_err-check_work : goal.returns-in_err-check_work
returns-in_err-check_work c = rw (passed-up _ c.from_residual.ensures.1) (breaks-work-refused _ _ _ _ c.in_err-check_work.ensures)

pub find_ends-found-requires : goal.find_ends-found-requires
find_ends-found-requires c = room-at (goal.at.find_ends-found-requires c).In_ok-check_work

pub fill_both-filled-requires : goal.fill_both-filled-requires
fill_both-filled-requires c =
    let accepted = c.args.admitted.accepted in
    let found = c.find_ends-found.ensures in
    record {
      room = record {
        nonempty = accepted.nonempty;
        short = accepted.short;
        entries = inside-at (goal.at.fill_both-filled-requires c).After-find_ends-found;
      };
      inside = found.inside;
      ends = found.ends;
      count = found.count;
      noted = found.noted;
      breaks = found.breaks;
    }

pub clear-requires : goal.clear-requires
clear-requires c = omega (arith, inside-at (goal.at.clear-requires c).After-find_ends-found)

pub returns : goal.returns
returns c = breaks-tried _ _ _ _ (sym c.in_ok-check_work.ensures) c.find_ends-found.ensures c.fill_both-filled.ensures c.clear.ensures
