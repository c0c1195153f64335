use Rattle.exports.proofs.SmallLaws.{guarded, test-small}
use Rattle.exports.proofs.metsroeb_test.Goals as goal

pub tell_test-requires : goal.tell_test-requires
tell_test-requires c = test-small (guarded _) c.find_extension.ensures

pub returns : goal.returns
returns c = (_, c.find_extension.ensures, c.tell_test.ensures)
