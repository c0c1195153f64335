-- THEOREM lyndon-table-cfl-in. The entry at i is the length of the first factor of the strict cut of the suffix at i. Also the length
-- and the entries of the table.
use Rattle.std.specs.Prelude.{◌≡◌, refl, List, [], ◌∷◌, ℕ, zero, suc, ◌<◌, length, drop, get_or}
use Rattle.std.proofs.Common.{ap, arith}
use Rattle.words.specs.Factorizations.{longest_anti_lyndon, lyndon_table}

pub lyndon-table-length : (w : List ℕ) → length (lyndon_table w) ≡ length w
unfolding lyndon_table
lyndon-table-length [] = refl
lyndon-table-length (a ∷ w) = ap suc (lyndon-table-length w)

pub lyndon-table-at : (w : List ℕ) (i : ℕ) → i < length w → get_or (lyndon_table w) i 0 ≡ longest_anti_lyndon (drop i w)
unfolding lyndon_table
lyndon-table-at [] i l = absurd (omega arith)
lyndon-table-at (a ∷ w) zero l = refl
lyndon-table-at (a ∷ w) (suc i) l = lyndon-table-at w i (omega arith)

-- the length of the first word, 0 for no word
abbrev pub first_length : List (List ℕ) → ℕ
first_length [] = 0
first_length (m ∷ ms) = length m
