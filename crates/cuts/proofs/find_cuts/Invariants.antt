-- Each turn cuts the rest once and notes the cut; the rest then begins there.
use Prim.Native.Nat.{◌-◌}
use Rattle.cuts.proofs.Finding.{Finding}
use Rattle.cuts.proofs.find_cuts.Given as goal

abbrev pub invariant-loop-from : goal.invariant-loop-from
invariant-loop-from l = Finding l.word l.initial.work l.work l.n l.from l.cuts l.breaks

abbrev pub decreases-loop-from : goal.decreases-loop-from
decreases-loop-from l = l.n - l.from
