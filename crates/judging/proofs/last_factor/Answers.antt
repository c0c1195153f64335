use Rattle.judging.proofs.LastFactors.{descend-begin, descend-bordered, descend-on, descend-less, descend-end}
use Rattle.judging.proofs.last_factor.Goals as goal

pub loop-s-init : goal.loop-s-init
loop-s-init c = descend-begin c.requires

pub scan_border-s-requires : goal.scan_border-s-requires
scan_border-s-requires c = descend-bordered c.loop-s.invariant c.loop-s-test.true

pub loop-s-smaller : goal.loop-s-smaller
loop-s-smaller c = descend-less c.loop-s.invariant _ c.scan_border-s.ensures

pub loop-s-preserved : goal.loop-s-preserved
loop-s-preserved c = descend-on c.loop-s.invariant _ c.loop-s-test.true c.scan_border-s.ensures

pub returns : goal.returns
returns c = descend-end c.loop-s.invariant c.loop-s-test.false
