-- The list is checked, and 10 refuses; otherwise each turn lends the next record, the work buffer and what is left of the result buffer to the
-- piece cut, and puts its answer into the next place.
use lib.ListN.{length}
use mathlib.Core.Path.{◌≡◌}
use Rattle.checks.specs.Lines.{record_lines}
use Rattle.batch.proofs.Cutting.{Cutting}
use Rattle.batch.proofs.icfl_batch.Given as goal

abbrev pub invariant-loop-i : goal.invariant-loop-i
invariant-loop-i l =
    Cutting record_lines l.bytes l.record_ends l.initial.work l.initial.pairs l.work l.pairs l.answers l.from l.used l.i
    × (length l.work ≡ length l.initial.work)
    × (length l.pairs ≡ length l.initial.pairs)
