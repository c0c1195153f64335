-- Three lines, each tried past those before it.
use mathlib.Core.Path.{sym}
use Rattle.checks.proofs.LineLaws.{passed-up, refused-first, passed_first}
use Rattle.compare.proofs.suffixes.admit.Goals as goal

pub returns-in_err-check_range : goal.returns-in_err-check_range
returns-in_err-check_range c = rw (passed-up _ c.from_residual.ensures.1) (refused-first _ _ c.in_err-check_range.ensures)

pub returns-in_err-check_start : goal.returns-in_err-check_start
returns-in_err-check_start c =
    rw (passed-up _ c.from_residual-in_err-check_start.ensures.1)
    (passed_first _ _ (sym c.in_ok-check_range.ensures) (refused-first _ _ c.in_err-check_start.ensures))

pub returns : goal.returns
returns c =
    passed_first _ _ (sym c.in_ok-check_range.ensures) (passed_first _ _ (sym c.in_ok-check_start.ensures) c.check_start-2.ensures)
