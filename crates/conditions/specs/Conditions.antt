-- DEFINITIONS. The conditions of the table of refusals that speak of a whole list: of ends (7), and of record ends (10).
use Rattle.std.specs.Prelude.{Bool, true, false, not, ◌||◌, List, [], ◌∷◌, ℕ, length, ltb, eqb}

-- each entry is below the next one
unfoldable pub rising : List ℕ → Bool
rising [] = true
rising (a ∷ []) = true
rising (a ∷ b ∷ es) = elim (ltb a b) [ true ↦ rising (b ∷ es) | false ↦ false ]

-- the last entry of a ∷ es
unfoldable pub last_of : ℕ → List ℕ → ℕ
last_of a [] = a
last_of a (b ∷ es) = last_of b es

-- "empty, first end 0, not strictly rising, or last end not the length"
unfoldable pub are_faulty_ends : List ℕ → ℕ → Bool
unfolding rising last_of
are_faulty_ends [] n = true
are_faulty_ends (e ∷ es) n = eqb e 0 || (not (rising (e ∷ es)) || not (eqb (last_of e es) n))

-- ---- request 105: the list of where the records of a batch end (paper 02: a card's list)

abbrev pub most_records : ℕ
most_records = 64

-- "falls somewhere": an entry is below the one before it
unfoldable pub falls : List ℕ → Bool
falls [] = false
falls (a ∷ []) = false
falls (a ∷ b ∷ es) = ltb b a || falls (b ∷ es)

-- "the list is empty, has more than 64 ends, falls somewhere, or does not end with the bytes lent"
unfoldable pub are_faulty_record_ends : List ℕ → ℕ → Bool
unfolding falls last_of
are_faulty_record_ends [] n = true
are_faulty_record_ends (e ∷ es) n = ltb most_records (length (e ∷ es)) || (falls (e ∷ es) || not (eqb (last_of e es) n))
