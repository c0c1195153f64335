use Rattle.extension.proofs.ScanLaws.{scan-starts, scan-goes-on}
use Rattle.extension.proofs.scan_borders.Goals as goal

pub loop-at-init : goal.loop-at-init
loop-at-init c = (scan-starts _ _ _ c.requires c.start-s.ensures, rw c.start-s.ensures)

pub loop-at-preserved : goal.loop-at-preserved
loop-at-preserved c =
    scan-goes-on _ c.loop-at.invariant.0 c.loop-at.invariant.1 c.requires c.loop-at-test.true c.if-met-new.false c.step-s.ensures
