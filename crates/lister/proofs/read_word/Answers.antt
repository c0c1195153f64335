-- What has come lies at the front of the buffer, and each turn that goes on adds to it.
use Rattle.std.proofs.Common.{rules, arith}
use Rattle.lister.proofs.ReadingLaws.{consumes-behind}
use Rattle.lister.proofs.read_word.Goals as goal

pub loop-done-preserved : goal.loop-done-preserved
loop-done-preserved g c =
    let came = c.in_ok-more.ensures in
    let g = c.loop-done.invariant in
    (omega (arith, came.within), search rules, consumes-behind _ _ _ _ _ _ _ _ g.0 (omega (arith, came.within)) g.2 came.read.0)
