-- Refused at the door, or the room's promise past it.
use mathlib.Core.Path.{sym}
use Rattle.checks.proofs.LineLaws.{passed-up, filled-at-door, filled-past-door}
use Rattle.cfl.proofs.cfl_in.Goals as goal

pub returns-in_err-admitted : goal.returns-in_err-admitted
returns-in_err-admitted c = rw (passed-up _ c.from_residual.ensures.1) (filled-at-door _ _ _ _ _ c.in_err-admitted.ensures.says)

pub returns : goal.returns
returns c = filled-past-door _ (sym c.in_ok-admitted.ensures.says) (rw c.in_ok-admitted.ensures.same at c.cut.ensures)
