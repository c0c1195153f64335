use Rattle.exports.proofs.SmallLaws.{guarded, table-small}
use Rattle.exports.proofs.metsroeb_lyndon_table.Goals as goal

pub tell_count-requires : goal.tell_count-requires
tell_count-requires c = table-small _ _ _ (guarded _) c.lyndon_table.ensures

pub returns : goal.returns
returns c = (_, c.lyndon_table.ensures, c.tell_count.ensures)
