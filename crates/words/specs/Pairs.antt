-- DEFINITIONS. The entries of the piece cut (request 108): "Each entry of the piece cut becomes two numbers, the end and the number of strict pieces inside."
-- They stand in a flat list of pairs: end, count, end, count, ..
use Rattle.std.specs.Prelude.{List, [], ◌∷◌, true, false, ◌&&◌, ℕ, suc, leb, ltb}
use Rattle.words.specs.Separated.{separated_icfl_ends, separated_cfl_in_ends}

-- "the number of strict pieces inside" what lies from place i to place j: how many of the strict ends ss lie after i and not after j
unfoldable pub ends_inside : ℕ → ℕ → List ℕ → ℕ
ends_inside i j [] = 0
ends_inside i j (s ∷ ss) = elim (ltb i s && leb s j) [ true ↦ suc (ends_inside i j ss) | false ↦ ends_inside i j ss ]

-- the ends es of pieces, the first of which begins at place i, each with its number of strict pieces
unfoldable pub pairs_from : ℕ → List ℕ → List ℕ → List ℕ
unfolding ends_inside
pairs_from i [] ss = []
pairs_from i (e ∷ es) ss = e ∷ ends_inside i e ss ∷ pairs_from e es ss

-- the pairs of a record
unfoldable pub separated_pairs : List ℕ → List ℕ
unfolding pairs_from separated_icfl_ends separated_cfl_in_ends
separated_pairs w = pairs_from 0 (separated_icfl_ends w) (separated_cfl_in_ends w)

-- the ends in a list of pairs, and the counts; an entry without a second one is no pair
unfoldable pub ends_of : List ℕ → List ℕ
ends_of [] = []
ends_of (e ∷ []) = []
ends_of (e ∷ c ∷ ps) = e ∷ ends_of ps

unfoldable pub counts_of : List ℕ → List ℕ
counts_of [] = []
counts_of (e ∷ []) = []
counts_of (e ∷ c ∷ ps) = c ∷ counts_of ps
