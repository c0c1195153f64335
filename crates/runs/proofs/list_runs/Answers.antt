-- Line 4, then the runs are listed.
use mathlib.Core.Path.{sym}
use native.Mathlib.Omega.{arith}
use Rattle.checks.proofs.LineLaws.{passed-up, filled-refused, filled-done}
use Rattle.checks.proofs.RecordLaws.{enough}
use Rattle.runs.proofs.list_runs.Goals as goal

pub check_room-requires : goal.check_room-requires
check_room-requires c = record { accepted = c.args.admitted.accepted; work = omega arith }

pub returns-in_err-check_room : goal.returns-in_err-check_room
returns-in_err-check_room c = rw (passed-up _ c.from_residual.ensures.1) (filled-refused _ _ _ c.in_err-check_room.ensures)

pub list_runs-requires : goal.list_runs-requires
list_runs-requires c = record {
  count = record { short = c.args.admitted.accepted.short; work = omega (arith, c.check_room.auto.longest) };
  room = enough 4 _ _ (sym c.in_ok-check_room.ensures);
}

pub returns : goal.returns
returns c = filled-done (sym c.in_ok-check_room.ensures) c.list_runs.ensures.counted c.list_runs.ensures.listed
