-- The walk goes from border to shorter border as long as the next letter is below the letter at the end; along the borders the next letters do not fall.
use Rattle.theory.specs.Scan.ScannedBorders.{Walk}
use Rattle.extension.proofs.shortest_border.Given as goal

abbrev pub invariant-loop-border : goal.invariant-loop-border
invariant-loop-border l = Walk l.word l.at l.border

abbrev pub decreases-loop-border : goal.decreases-loop-border
decreases-loop-border l = l.border
