use Rattle.strict.proofs.Walking.{all_left}
use Rattle.strict.proofs.Factors.of.Goals as goal

pub returns : goal.returns
returns c = all_left c.args.word.now
