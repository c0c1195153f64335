use Rattle.exports.proofs.SmallLaws.{guarded, comparison-small}
use Rattle.exports.proofs.metsroeb_compare.Goals as goal

pub tell_comparison-requires : goal.tell_comparison-requires
tell_comparison-requires c = comparison-small (guarded _) c.compare_suffixes.ensures

pub returns : goal.returns
returns c = (_, c.compare_suffixes.ensures, c.tell_comparison.ensures)
