-- Refused at the door, or the room's promise past it.
use mathlib.Core.Path.{refl, sym}
use Rattle.checks.proofs.LineLaws.{passed-up}
use Rattle.icfl_breaks.proofs.BreaksCases.{breaks-at-door, breaks-past-door}
use Rattle.icfl_breaks.proofs.icfl_with_breaks.Goals as goal

pub returns-in_err-admitted : goal.returns-in_err-admitted
returns-in_err-admitted c = rw (passed-up _ c.from_residual.ensures.1) (breaks-at-door _ _ _ _ _ refl c.in_err-admitted.ensures.says)

pub returns : goal.returns
returns c = breaks-past-door _ _ _ _ _ (sym c.in_ok-admitted.ensures.says) (rw c.in_ok-admitted.ensures.same at c.cut_with_breaks.ensures)
