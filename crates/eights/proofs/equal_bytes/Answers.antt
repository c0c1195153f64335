use Rattle.eights.proofs.EightLaws.{pair-tells}
use Rattle.eights.proofs.equal_bytes.Goals as goal

pub returns : goal.returns
returns c = pair-tells _ _
