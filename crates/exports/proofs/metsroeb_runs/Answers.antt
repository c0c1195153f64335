use Rattle.exports.proofs.SmallLaws.{guarded, runs-small}
use Rattle.exports.proofs.metsroeb_runs.Goals as goal

pub tell_count-requires : goal.tell_count-requires
tell_count-requires c = runs-small _ _ _ (guarded _) c.runs.ensures

pub returns : goal.returns
returns c = (_, c.runs.ensures, c.tell_count.ensures)
