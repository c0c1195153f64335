-- THEOREM icfl-concat. The product of the factors is the word.
use Rattle.std.specs.Prelude.{◌≡◌, ℕ}
use mathlib.Core.List.{List, flatten}
use Rattle.words.specs.Factorizations.{icfl}
use Rattle.theory.specs.Icfl.IcflFactors.{icfl-factors}

pub icfl-concat : (w : List ℕ) → flatten (icfl w) ≡ w
icfl-concat w = (icfl-factors w).product
