-- Three entries for each letter but one are enough (the "Runs" theorem); else the runs are counted.
use native.Mathlib.Omega.{arith}
use Rattle.theory.proofs.Stretches.SeparatedRuns.{separated-runs-few}
use Rattle.runs.proofs.RoomLaws.{room-at-once, count-asks}
use Rattle.runs.proofs.check_room.Goals as goal

pub returns-then-word-entries : goal.returns-then-word-entries
returns-then-word-entries c = room-at-once c.args.word.now c.args.entries c.requires.accepted.nonempty c.if-word-entries.true

pub count_runs-count-requires : goal.count_runs-count-requires
count_runs-count-requires c = count-asks c.requires

pub overflow_mul-count : goal.overflow_mul-count
overflow_mul-count c = omega (arith, c.count_runs-count.ensures, separated-runs-few c.args.word.now, c.requires.accepted.short)

pub returns : goal.returns
returns c = rw (← c.count_runs-count.ensures) c.check_result.ensures
