use Rattle.matching.proofs.PairsLoop.{told-some, told-none, part-faulty, part-counted, part-short}
use Rattle.theory.specs.Orders.Decisions.{eqb-test}
use Rattle.matching.proofs.part_fits.Goals as goal

pub returns-then-is_some : goal.returns-then-is_some
returns-then-is_some c =
    part-faulty c.args.word.now c.args.first c.args.end c.args.next c.args.count (told-some _ c.judge_turn.ensures c.if-is_some.ensures)

pub count_inside-requires : goal.count_inside-requires
count_inside-requires c = part-short c.requires

pub returns : goal.returns
returns c =
    rw c.from.ensures
    (part-counted c.args.word.now c.args.first c.args.end c.args.next c.args.count _ (told-none _ c.judge_turn.ensures c.if-is_some.ensures)
    c.count_inside.ensures (eqb-test _ _))
