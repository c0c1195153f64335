-- There are no more factors than letters.
use mathlib.Core.Path.{ap}
use Rattle.std.proofs.Common.{inl}
use native.Mathlib.Omega.{arith}
use lib.ListN.{length}
use Rattle.strict.proofs.Storing.{ends-few}
use Rattle.strict.proofs.count_factors.Goals as goal

pub count-requires-clause-fits : goal.count-requires-clause-fits
count-requires-clause-fits c = inl (omega (arith, ap length c.of.ensures, ends-few c.args.word.now, c.requires))
