-- The test of the definition.
use Rattle.theory.specs.Repetitions.Found.{counts-test}
use Rattle.found.proofs.stands_for.Goals as goal

pub returns : goal.returns
returns c = let a = c.args in counts-test a.word.now a.i a.end
