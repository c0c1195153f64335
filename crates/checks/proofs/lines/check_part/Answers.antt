-- Line 7, and past it line 8.
use mathlib.Core.Path.{sym, ◌∙◌}
use Rattle.checks.proofs.LineLaws.{passed-up, refused-first, passed_first}
use Rattle.checks.proofs.lines.check_part.Goals as goal

pub returns-in_err-check_pairs : goal.returns-in_err-check_pairs
returns-in_err-check_pairs c = rw (passed-up _ c.from_residual.ensures.1) (refused-first _ _ c.in_err-check_pairs.ensures)

pub returns : goal.returns
returns c = passed_first _ _ (sym c.in_ok-check_pairs.ensures) (c.check_number.ensures ∙ rw c.count.ensures)
