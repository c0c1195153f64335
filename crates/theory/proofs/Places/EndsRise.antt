-- Rises n b es: from b on the ends es rise strictly to n. So do the ends of a list of nonempty words to the length of their product
-- (ends-rise), and the ends of both factorizations of a word (icfl-ends-rise, cfl-in-ends-rise).
use Rattle.std.specs.Prelude.{ℕ, length}
use mathlib.Core.List.{List}
use Rattle.std.proofs.Common.{arith}
use Rattle.words.specs.Words.{AntiLyndon}
use Rattle.words.specs.Factorizations.{cfl_in_ends}
use Rattle.theory.proofs.CflIn.CflInIs.{cfl-in-is}
use Rattle.theory.specs.Places.EndsRise.{Rises, ends-rise}

pub cfl-in-ends-rise : (w : List ℕ) → Rises (length w) 0 (cfl_in_ends w)
unfolding cfl_in_ends
cfl-in-ends-rise w =
    let cut = cfl-in-is w in
    ends-rise {P = AntiLyndon} (λ m p. p.nonempty) cut.words 0 (length w) (rw cut.product (omega arith))
