-- Line 4, then the walk that stores the ends.
use mathlib.Core.Path.{sym}
use Rattle.checks.proofs.LineLaws.{passed-up, filled-refused, filled-done}
use Rattle.checks.proofs.RecordLaws.{enough}
use Rattle.cfl.proofs.cut.Goals as goal

pub check_room-requires : goal.check_room-requires
check_room-requires c = c.args.admitted.accepted.short

pub returns-in_err-check_room : goal.returns-in_err-check_room
returns-in_err-check_room c = rw (passed-up _ c.from_residual.ensures.1) (filled-refused _ _ _ c.in_err-check_room.ensures)

pub write_ends-requires-clause-room : goal.write_ends-requires-clause-room
write_ends-requires-clause-room c = enough 4 _ _ (sym c.in_ok-check_room.ensures)

pub returns : goal.returns
returns c =
    filled-done (sym c.in_ok-check_room.ensures) c.write_ends.ensures.count c.write_ends.ensures.stored
