use Rattle.exports.proofs.SmallLaws.{guarded, batch-small}
use Rattle.exports.proofs.metsroeb_icfl_batch.Goals as goal

pub numbers_of_batch-requires : goal.numbers_of_batch-requires
numbers_of_batch-requires c = batch-small guarded c.icfl_batch-answers.ensures

pub returns : goal.returns
returns c = (_, c.icfl_batch-answers.ensures, c.numbers_of_batch.ensures)
