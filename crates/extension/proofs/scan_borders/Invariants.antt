-- Each turn notes the border of the prefix that is passed and takes one step; what is noted is a remembered state.
use mathlib.Core.Path.{◌≡◌}
use Rattle.extension.proofs.ScanLaws.{Going}
use Rattle.extension.proofs.scan_borders.Given as goal

abbrev pub invariant-loop-at : goal.invariant-loop-at
invariant-loop-at l = Going l.word l.initial.work l.work l.s × (l.s.length ≡ l.at)
