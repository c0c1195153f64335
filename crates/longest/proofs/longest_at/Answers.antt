-- In one order the letter is alone, so the entry of the other is the longer one.
use mathlib.Core.Path.{◌∙◌}
use mathlib.Core.Bool.{true, false}
use Rattle.longest.proofs.LongestLaws.{one-longest, last-longest}
use Rattle.longest.proofs.longest_at.Goals as goal

pub returns-then-i-word : goal.returns-then-i-word
returns-then-i-word c = last-longest _ _ c.if-i-word.true

pub returns-then-natural_at : goal.returns-then-natural_at
returns-then-natural_at c = c.merged_length.ensures ∙ one-longest _ _ c.requires.inside true c.if-natural_at.ensures

pub returns-else-natural_at : goal.returns-else-natural_at
returns-else-natural_at c = c.merged_length-else-natural_at.ensures ∙ one-longest _ _ c.requires.inside false c.if-natural_at.ensures
