-- The definition's two cases.
use mathlib.Core.Path.{sym, ◌∙◌}
use Rattle.theory.specs.Repetitions.Found.{period-same, period-other}
use Rattle.common.specs.Orders.{most_byte}
use Rattle.found.proofs.period_at.Goals as goal

pub returns-then-word-i : goal.returns-then-word-i
returns-then-word-i c = sym (period-same most_byte _ _ c.if-word-i.true)

pub returns : goal.returns
returns c =
    c.requires.known.entry ∙ sym (period-other most_byte _ _ c.if-word-i.false)
