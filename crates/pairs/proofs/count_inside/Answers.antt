use Rattle.pairs.proofs.PairingLaws.{one-letter}
use Rattle.pairs.proofs.count_inside.Goals as goal

pub returns-then-factor-eq1 : goal.returns-then-factor-eq1
returns-then-factor-eq1 c = one-letter _ c.if-factor-eq1.true
