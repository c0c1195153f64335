-- Safe and ending: the loop's measure is what is left.
use Rattle.std.proofs.Common.{◌-◌, length}
use Rattle.naive.proofs.cutting.cut_by.Given as goal

abbrev pub decreases-loop-from : goal.decreases-loop-from
decreases-loop-from g l = length l.word - l.from
