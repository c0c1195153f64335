use Rattle.exports.proofs.SmallLaws.{guarded, icfl-small}
use Rattle.exports.proofs.metsroeb_icfl.Goals as goal

pub tell_count-requires : goal.tell_count-requires
tell_count-requires c = icfl-small (guarded _) c.icfl.ensures

pub returns : goal.returns
returns c = (_, c.icfl.ensures, c.tell_count.ensures)
