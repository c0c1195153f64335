-- Each step keeps that the letters read are inverse Lyndon with the state's border as their longest.
use Prim.Native.Nat.{◌+◌}
use mathlib.Core.Path.{◌≡◌}
use Rattle.theory.specs.Scan.Scanned.{Scanned}
use Rattle.scan.proofs.scan_on.Given as goal

abbrev pub invariant-loop-new : goal.invariant-loop-new
invariant-loop-new l = Scanned l.word l.s.length l.s.border × (l.s.length ≡ l.fn.from.length + l.new-index)
