-- THEOREM pair-examples. The pairs (request 108) of paper 01's records A to K, H with its four entries and I as the request prints it, 13:2 and 17:2; and of
-- records with separators: one alone, two in a row, and one between two copies of I. Computed from the definitions, one table, one theorem.
use Rattle.std.specs.Prelude.{◌≡◌, refl, List, [], ◌∷◌, ◌++◌, map, ℕ}
use Rattle.words.specs.Pairs.{separated_pairs}
use Rattle.words.specs.Examples.{a, b, c, d}

abbrev m : ℕ
m = 255

abbrev record_i : List ℕ
record_i = c ∷ b ∷ a ∷ b ∷ a ∷ c ∷ a ∷ a ∷ c ∷ b ∷ a ∷ b ∷ a ∷ c ∷ b ∷ a ∷ c ∷ []

abbrev pub pair_rows : List (List ℕ × List ℕ)
pair_rows =
    (a ∷ [], 1 ∷ 1 ∷ [])
    ∷ (a ∷ a ∷ a ∷ [], 3 ∷ 3 ∷ [])
    ∷ (a ∷ b ∷ [], 1 ∷ 1 ∷ 2 ∷ 1 ∷ [])
    ∷ (b ∷ a ∷ [], 2 ∷ 1 ∷ [])
    ∷ (a ∷ b ∷ c ∷ [], 1 ∷ 1 ∷ 2 ∷ 1 ∷ 3 ∷ 1 ∷ [])
    ∷ (b ∷ a ∷ b ∷ a ∷ [], 4 ∷ 2 ∷ [])
    ∷ (b ∷ b ∷ a ∷ b ∷ b ∷ a ∷ b ∷ b ∷ b ∷ [], 6 ∷ 2 ∷ 9 ∷ 3 ∷ [])
    ∷ (c ∷ b ∷ a ∷ b ∷ a ∷ c ∷ b ∷ a ∷ c ∷ [], 5 ∷ 1 ∷ 9 ∷ 2 ∷ [])
    ∷ (record_i, 13 ∷ 2 ∷ 17 ∷ 2 ∷ [])
    ∷ (d ∷ a ∷ b ∷ a ∷ d ∷ a ∷ b ∷ d ∷ a ∷ b ∷ d ∷ a ∷ d ∷ a ∷ c ∷ [], 4 ∷ 1 ∷ 10 ∷ 2 ∷ 15 ∷ 1 ∷ [])
    ∷ (d ∷ a ∷ b ∷ d ∷ a ∷ d ∷ a ∷ c ∷ d ∷ d ∷ b ∷ d ∷ c ∷ [], 3 ∷ 1 ∷ 8 ∷ 1 ∷ 13 ∷ 1 ∷ [])
    ∷ (m ∷ [], 1 ∷ 1 ∷ [])
    ∷ (m ∷ m ∷ a ∷ a ∷ [], 1 ∷ 1 ∷ 2 ∷ 1 ∷ 4 ∷ 2 ∷ [])
    ∷ (record_i ++ m ∷ record_i, 13 ∷ 2 ∷ 17 ∷ 2 ∷ 18 ∷ 1 ∷ 31 ∷ 2 ∷ 35 ∷ 2 ∷ [])
    ∷ []

pub pair-examples : map (λ r. separated_pairs r.0) pair_rows ≡ map (λ r. r.1) pair_rows
unfolding separated_pairs
pair-examples = refl
