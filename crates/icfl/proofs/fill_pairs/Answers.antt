-- There are no more factors than letters; past line 4 their pairs have room.
use mathlib.Core.Path.{ap, sym}
use native.Mathlib.Omega.{arith}
use lib.ListN.{length}
use Rattle.theory.specs.Places.EndsRise.{rises-few}
use Rattle.theory.specs.Stretches.Factors.{separated-icfl-ends-rise}
use Rattle.checks.proofs.RecordLaws.{enough}
use Rattle.icfl.proofs.fill_pairs.Goals as goal

pub entries-requires : goal.entries-requires
entries-requires c =
    omega (arith, rises-few (separated-icfl-ends-rise c.args.word.now), ap length c.requires.right, c.requires.short)

pub write_pairs-requires : goal.write_pairs-requires
write_pairs-requires c =
    record { short = c.requires.short; right = c.requires.right; entries = omega (arith, c.entries.ensures, enough 4 _ _ (sym c.in_ok-check_result.ensures)) }
