-- The runs of the stretches before `from` are in the list; a turn adds those of the stretch that begins there.
use mathlib.Core.Path.{◌≡◌}
use Prim.Native.Nat.{◌-◌}
use lib.ListN.{length}
use Rattle.walking.proofs.WalkLaws.{Walking}
use Rattle.walking.proofs.walk.Given as goal

abbrev pub invariant-loop-from : goal.invariant-loop-from
invariant-loop-from g l = (length l.longest ≡ length l.initial.longest) × Walking l.word l.initial.runs l.runs g.S.Sink.stores l.count l.from

abbrev pub decreases-loop-from : goal.decreases-loop-from
decreases-loop-from g l = length l.word - l.from
