-- THEOREM separated-icfl-ends, separated-cfl-in-ends, separated-kept-ends. The ends of a record are those of its stretches, each moved by the stretch's first place,
-- and the ends of its separators; of the piece cut they are, stretch by stretch, the places of the kept breaks and the stretch's end.
use Rattle.std.specs.Prelude.{◌≡◌, ℕ}
use mathlib.Core.List.{List}
use Rattle.words.specs.Factorizations.{cfl_in, cfl_in_ends}
use Rattle.theory.proofs.CflIn.CflInIs.{cfl-in-is}
use Rattle.words.specs.Separated.{stretches, separated_cfl_in, separated_cfl_in_ends}
use Rattle.theory.specs.SeparatedStatements.{ends_over}
use Rattle.theory.specs.Stretches.StretchBreaks.{later}
use Rattle.theory.specs.Stretches.Separation.{separation}
use Rattle.theory.specs.Stretches.StretchEnds.{cfl-in-ends-later, ends-over}

pub separated-cfl-in-ends : (w : List ℕ) → separated_cfl_in_ends w ≡ ends_over (λ i v. later i (cfl_in_ends v)) 0 (stretches w)
unfolding separated_cfl_in_ends separated_cfl_in
separated-cfl-in-ends w = ends-over cfl_in (λ v. (cfl-in-is v).product) (λ i v. later i (cfl_in_ends v)) cfl-in-ends-later 0 (separation w)
