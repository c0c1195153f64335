-- DEFINITIONS. Records with separators (request 103; the paper's word is mark): "a byte 255 is a mark". What the cuts, the breaks and the start table of a record
-- are, by those of its stretches.
use mathlib.Core.List.{List, [], ◌∷◌, ◌++◌, map, Memᴰ}
use Rattle.std.specs.Prelude.{Bool, true, false, ◌||◌, ℕ, ◌+◌, ◌≤◌, length, get_or, eqb}
use Rattle.words.specs.Factorizations.{icfl, breaks_from, cfl_in, lyndon_table, ends_from}
use Rattle.words.specs.declared.Break.{Break}

abbrev pub separator : ℕ
separator = 255

-- the factor that a separator is
abbrev pub mark : List ℕ
mark = separator ∷ []

-- "a record that holds a mark"
unfoldable pub has_mark : List ℕ → Bool
has_mark [] = false
has_mark (a ∷ w) = eqb a separator || has_mark w

abbrev pub Unmarked : List ℕ → Type 0
Unmarked w = ¬ Memᴰ separator w

-- no letter is above the separator, as in every word of bytes
abbrev pub UpToSeparator : List ℕ → Type 0
UpToSeparator w = (i : ℕ) → get_or w i 0 ≤ separator

-- a in front of the first word
unfoldable pub cons_first : ℕ → List (List ℕ) → List (List ℕ)
cons_first a [] = (a ∷ []) ∷ []
cons_first a (v ∷ vs) = (a ∷ v) ∷ vs

-- the stretches "between neighbouring marks or the record's edges": k separators, k + 1 words, some of them empty
unfoldable pub stretches : List ℕ → List (List ℕ)
unfolding cons_first
stretches [] = [] ∷ []
stretches (a ∷ w) = elim (eqb a separator) [ true ↦ [] ∷ stretches w | false ↦ cons_first a (stretches w) ]

-- the lists joined, with x between neighbouring ones
unfoldable pub between : {A : Type 0} → A → List (List A) → List A
between x [] = []
between x (l ∷ []) = l
between x (l ∷ m ∷ ls) = l ++ x ∷ between x (m ∷ ls)

-- "Each mark is a piece and a strict piece of its own, with 1 in the start table. Each nonempty stretch .. is cut as a record by itself." An empty one has no
-- factor and no entry.
unfoldable pub separated_icfl : List ℕ → List (List ℕ)
unfolding between stretches icfl
separated_icfl w = between mark (map icfl (stretches w))

unfoldable pub separated_cfl_in : List ℕ → List (List ℕ)
unfolding between stretches cfl_in
separated_cfl_in w = between mark (map cfl_in (stretches w))

unfoldable pub separated_table : List ℕ → List ℕ
unfolding between stretches lyndon_table
separated_table w = between 1 (map lyndon_table (stretches w))

unfoldable pub separated_icfl_ends : List ℕ → List ℕ
unfolding separated_icfl ends_from
separated_icfl_ends w = ends_from 0 (separated_icfl w)

unfoldable pub separated_cfl_in_ends : List ℕ → List ℕ
unfolding separated_cfl_in ends_from
separated_cfl_in_ends w = ends_from 0 (separated_cfl_in w)

-- "Breaks are given by stretch, in the record's places; marks and the last pieces of stretches end without one." The first stretch begins at place i.
unfoldable pub breaks_over : ℕ → List (List ℕ) → List Break
unfolding breaks_from
breaks_over i [] = []
breaks_over i (v ∷ vs) = breaks_from i v ++ breaks_over (i + length v + 1) vs

unfoldable pub separated_breaks : List ℕ → List Break
unfolding breaks_over stretches
separated_breaks w = breaks_over 0 (stretches w)
