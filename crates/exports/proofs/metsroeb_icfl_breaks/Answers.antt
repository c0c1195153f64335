use Rattle.exports.proofs.SmallLaws.{guarded, breaks-small}
use Rattle.exports.proofs.metsroeb_icfl_breaks.Goals as goal

pub tell_breaks-requires : goal.tell_breaks-requires
tell_breaks-requires c = breaks-small (guarded _) c.icfl_with_breaks-answer.ensures

pub returns : goal.returns
returns c = (_, c.icfl_with_breaks-answer.ensures, c.tell_breaks.ensures)
