use borrow.Author.Tests.{eq-eqb, ne_eqb}
use Rattle.scan.specs.State.{step_state}
use Rattle.scan.proofs.Scan.step.Goals as goal

pub returns-then-new-met : goal.returns-then-new-met
unfolding step_state
returns-then-new-met c = simp (eq-eqb _ _ c.if-new-met.true)

pub returns : goal.returns
unfolding step_state
returns c = simp (ne_eqb _ _ c.if-new-met.false)
