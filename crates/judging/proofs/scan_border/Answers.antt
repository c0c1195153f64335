use Rattle.judging.proofs.LastFactors.{border-size, border-known, border-resumes, border-scanned}
use mathlib.Core.Path.{sym}
use Rattle.judging.proofs.scan_border.Goals as goal

pub returns-then-period-border : goal.returns-then-period-border
returns-then-period-border c = border-known c.requires c.if-period-border.true

pub slice_bounds-scan_on-end : goal.slice_bounds-scan_on-end
slice_bounds-scan_on-end c = sym (border-size c.requires)

pub scan_on-requires : goal.scan_on-requires
scan_on-requires c = border-resumes c.requires _ c.start-start.ensures

pub returns : goal.returns
returns c = border-scanned c.requires _ c.scan_on.ensures
