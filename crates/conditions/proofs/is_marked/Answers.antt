-- Each turn takes one letter into what is known of the letters before.
use Rattle.conditions.proofs.MarkLaws.{looked-on, looked-at-all}
use Rattle.conditions.proofs.is_marked.Goals as goal

pub loop-letter-preserved : goal.loop-letter-preserved
loop-letter-preserved c = looked-on c.loop-letter.invariant c.loop-letter-test.true

pub returns : goal.returns
returns c = looked-at-all c.loop-letter.invariant c.loop-letter-test.false
