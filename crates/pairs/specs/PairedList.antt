-- DEFINITIONS. A list of pairs that a caller hands in (request 108): when line 7 refuses it, and where its parts begin.
use Rattle.std.specs.Prelude.{Bool, false, ◌||◌, List, [], ◌∷◌, ℕ, ◌-◌, ◌%◌, length, get_or, ltb, eqb}
use Rattle.words.specs.Pairs.{ends_of}
use Rattle.conditions.specs.Conditions.{are_faulty_ends}

-- "a count that is 0 or above its piece's length", in a list of pairs, the first of which is of a piece that begins at i
unfoldable pub are_faulty_counts : ℕ → List ℕ → Bool
are_faulty_counts i [] = false
are_faulty_counts i (e ∷ []) = false
are_faulty_counts i (e ∷ c ∷ ps) = eqb c 0 || (ltb (e - i) c || are_faulty_counts e ps)

-- "The reader and the summary take the paired list and refuse by 7 also an odd number of entries, or a count .."
unfoldable pub are_faulty_pairs : List ℕ → ℕ → Bool
unfolding ends_of are_faulty_ends are_faulty_counts
are_faulty_pairs ps n = are_faulty_ends (ends_of ps) n || (eqb (length ps % 2) 1 || are_faulty_counts 0 ps)

-- where part k of a list of ends begins: at the end before it, "the first from place 0"
abbrev pub factor_begin : List ℕ → ℕ → ℕ
factor_begin es k = get_or (0 ∷ es) k 0
