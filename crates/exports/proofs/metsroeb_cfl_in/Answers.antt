use Rattle.exports.proofs.SmallLaws.{guarded, cfl-in-small}
use Rattle.exports.proofs.metsroeb_cfl_in.Goals as goal

pub tell_count-requires : goal.tell_count-requires
tell_count-requires c = cfl-in-small _ _ _ (guarded _) c.cfl_in.ensures

pub returns : goal.returns
returns c = (_, c.cfl_in.ensures, c.tell_count.ensures)
