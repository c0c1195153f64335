-- THEOREM separated-icfl-is, separated-icfl-unique, separated-cfl-in-is, separated-cfl-in-unique. Both factorizations of a record are divisions into separators and
-- unmarked factors, each factor related to the next where neither is a separator; and they are the only ones. Also: a factor that is no separator is a factor of
-- a stretch (separated-icfl-factor), and the ends rise.
use Rattle.std.specs.Prelude.{◌≡◌, ℕ, length}
use Rattle.std.proofs.Common.{arith}
use mathlib.Core.List.{List}
use Rattle.words.specs.Words.{AntiLyndon}
use Rattle.words.specs.Factorizations.{cfl_in}
use Rattle.theory.specs.Statements.{EqualOrAfter}
use Rattle.theory.proofs.CflIn.CflInIs.{cfl-in-is}
use Rattle.theory.proofs.CflIn.CflInUnique.{cfl-in-unique}
use Rattle.theory.specs.Places.EndsRise.{Rises, ends-rise}
use Rattle.words.specs.Separated.{separated_cfl_in, separated_cfl_in_ends}
use Rattle.theory.specs.SeparatedStatements.{SeparatedOf}
use Rattle.theory.specs.Stretches.Separation.{separation}
use Rattle.theory.proofs.Stretches.Separation.{separated-cfl-in-concat}
use Rattle.theory.specs.Stretches.Factors.{anti-lyndon-factor, between-linked, separated-unique}

pub separated-cfl-in-is : (w : List ℕ) → SeparatedOf AntiLyndon EqualOrAfter w (separated_cfl_in w)
unfolding separated_cfl_in
separated-cfl-in-is w = record {
  product = separated-cfl-in-concat w;
  words = between-linked cfl_in (λ v. (cfl-in-is v).product) (λ v. (cfl-in-is v).words) (separation w);
}

pub separated-cfl-in-unique : (w : List ℕ) (ms : List (List ℕ)) → SeparatedOf AntiLyndon EqualOrAfter w ms → ms ≡ separated_cfl_in w
unfolding separated_cfl_in
separated-cfl-in-unique w ms s = separated-unique cfl_in (λ v ls d e. cfl-in-unique v ls (record { product = e; words = d })) w ms s

pub separated-cfl-in-ends-rise : (w : List ℕ) → Rises (length w) 0 (separated_cfl_in_ends w)
unfolding separated_cfl_in_ends
separated-cfl-in-ends-rise w =
    let cut = separated-cfl-in-is w in
    ends-rise (λ m p. (anti-lyndon-factor m p).nonempty) cut.words 0 (length w) (rw cut.product (omega arith))
