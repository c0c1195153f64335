-- The shape of a record with separators, and the equations of what is made stretch by stretch, once for all of it: a record without separator (between-whole), and
-- a stretch with the separator after it (between_split). The stretches are what their name says: stretches-joined, stretches-unmarked.
--   Separation w, separation     a word is unmarked, or an unmarked word, a separator and such a word: laws go by induction on this
use Rattle.std.specs.Prelude.{◌≡◌, ℕ}
use mathlib.Core.List.{List, flatten}
use Rattle.words.specs.Factorizations.{cfl_in}
use Rattle.theory.proofs.CflIn.CflInIs.{cfl-in-is}
use Rattle.words.specs.Separated.{separated_cfl_in}
use Rattle.theory.specs.Stretches.Separation.{between-product, separation}

pub separated-cfl-in-concat : (w : List ℕ) → flatten (separated_cfl_in w) ≡ w
unfolding separated_cfl_in
separated-cfl-in-concat w = between-product cfl_in (λ v. (cfl-in-is v).product) (separation w)
