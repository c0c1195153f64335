-- Safe and ending: the loop's measure is what is left.
use Rattle.std.proofs.Common.{◌-◌, length}
use Rattle.naive.proofs.breaks.breaks.Given as goal

abbrev pub decreases-loop-begun : goal.decreases-loop-begun
decreases-loop-begun g l = length l.word - l.begun
