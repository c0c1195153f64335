use Rattle.checks.specs.Lines.{tried}
use Rattle.checks.proofs.refusals.Refusal.when.Goals as goal

pub returns-then-met : goal.returns-then-met
unfolding tried
returns-then-met c = rw c.if-met.true

pub returns-else-met : goal.returns-else-met
unfolding tried
returns-else-met c = rw c.if-met.false
