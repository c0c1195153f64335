use Rattle.theory.specs.Orders.CommonLength.{agree-unique}
use Rattle.letters.proofs.OrderLaws.{letters-ordered}
use Rattle.letters.proofs.parted_at.Goals as goal

pub returns : goal.returns
returns c =
    let at = c.requires in
    record { sign-is = letters-ordered _ at c.cmp.ensures; common-is = agree-unique _ _ _ at.agree }
