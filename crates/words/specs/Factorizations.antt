-- DEFINITIONS. The two factorizations of a word and the Lyndon table, as functions that compute. The recursions on what
-- follows a factor have a bound for their depth as first argument; the length is enough (IcflUnfold and CflInUnfold of the theory).
use Rattle.std.specs.Prelude.{List, [], ◌∷◌, ◌++◌, Bool, true, false, not, ◌&&◌, ℕ, zero, suc, ◌+◌, ◌-◌, ◌*◌, length, take, drop, get_or, leb, ltb}
use Rattle.words.specs.Words.{is_same, is_inverse_lyndon, is_anti_lyndon}
use Rattle.words.specs.declared.Fate.{Fate}
use Rattle.words.specs.declared.Fate.TheVariants.{Kept, Joined}
use Rattle.words.specs.declared.Break.{Break}

-- the least of i, i + 1, .. that passes the test, or i + k where the first k of them fail
unfoldable pub least : (ℕ → Bool) → ℕ → ℕ → ℕ
least test zero i = i
least test (suc k) i = elim (test i) [ true ↦ i | false ↦ least test k (suc i) ]

-- L: "its shortest beginning that is not falling, of length L" (nonempty)
unfoldable pub failing_length : List ℕ → ℕ
unfolding least is_inverse_lyndon
failing_length w = least (λ n. not (is_inverse_lyndon (take n w))) (length w) 1

-- that beginning is "r a u r b, where a and b are bytes, a is less than b, and r and u may be empty", with |r| = k
unfoldable pub is_border : List ℕ → ℕ → ℕ → Bool
unfolding is_same
is_border w l k = leb (2 * k + 2) l && (is_same (take k w) (take k (drop (l - 1 - k) w)) && ltb (get_or w k 0) (get_or w (l - 1) 0))

-- |r|: "take the shortest such r"
unfoldable pub border_length : List ℕ → ℕ
unfolding least is_border failing_length
border_length w = let l : ℕ = failing_length w in least (λ k. is_border w l k) l 0

-- |p|: "The first L − |r| − 1 bytes are p."
unfoldable pub prefix_length : List ℕ → ℕ
unfolding failing_length border_length
prefix_length w = failing_length w - border_length w - 1

-- "If the first piece of that has a length of at most |r|, join it to p. If its length is at least |r| + 1, p stands"
unfoldable pub join_first : List ℕ → ℕ → List (List ℕ) → List (List ℕ)
join_first p r [] = p ∷ []
join_first p r (m ∷ ms) = elim (leb (length m) r) [ true ↦ (p ++ m) ∷ ms | false ↦ p ∷ m ∷ ms ]

-- canonical inverse Lyndon factorization (piece cut): "A falling record is one piece. Otherwise .. Cut what follows p in the
-- same way." The empty word has no factor.
unfoldable pub icfl_within : ℕ → List ℕ → List (List ℕ)
unfolding is_inverse_lyndon prefix_length border_length join_first
icfl_within zero w = []
icfl_within (suc k) [] = []
icfl_within (suc k) (a ∷ w) = elim (is_inverse_lyndon (a ∷ w)) [
  | true ↦ (a ∷ w) ∷ []
  | false ↦
      let p : ℕ = prefix_length (a ∷ w) in
      join_first (take p (a ∷ w)) (border_length (a ∷ w)) (icfl_within k (drop p (a ∷ w)))
]

unfoldable pub icfl : List ℕ → List (List ℕ)
unfolding icfl_within
icfl w = icfl_within (length w) w

-- a break's fate, by join_first's comparison: "kept with the two bytes a and b that differed, or joined with the number |r| less the joined piece's length"
unfoldable pub fate_of : ℕ → ℕ → ℕ → List (List ℕ) → Fate
fate_of a b r [] = Kept a b
fate_of a b r (m ∷ ms) = elim (leb (length m) r) [ true ↦ Joined (r - length m) | false ↦ Kept a b ]

-- the break (candidate cut point) of the first step of w, which begins at place i: "the place where p ends, the place where that step began, and |r|", and its
-- fate; a is the letter after the first r of r a u r b, b the last one
abbrev pub first_break : ℕ → List ℕ → Break
first_break i w =
    let p : ℕ = prefix_length w in
    let r : ℕ = border_length w in
    record { place = i + p; begun = i; border = r; fate = fate_of (get_or w r 0) (get_or w (p + r) 0) r (icfl (drop p w)) }

-- breaks of a word that begins at place i (request 102): "every break the cut considered ..; the breaks run from left to right". Step, then the rest, as
-- icfl_within.
unfoldable pub breaks_within : ℕ → ℕ → List ℕ → List Break
unfolding is_inverse_lyndon prefix_length border_length icfl fate_of
breaks_within zero i w = []
breaks_within (suc k) i [] = []
breaks_within (suc k) i (a ∷ w) = elim (is_inverse_lyndon (a ∷ w)) [
  | true ↦ []
  | false ↦ first_break i (a ∷ w) ∷ breaks_within k (i + prefix_length (a ∷ w)) (drop (prefix_length (a ∷ w)) (a ∷ w))
]

unfoldable pub breaks_from : ℕ → List ℕ → List Break
unfolding breaks_within
breaks_from i w = breaks_within (length w) i w

unfoldable pub icfl_breaks : List ℕ → List Break
unfolding breaks_from
icfl_breaks w = breaks_from 0 w

-- the greatest n ≤ k such that the first n letters are an anti-Lyndon word; 0 where there is none
unfoldable pub longest_within : ℕ → List ℕ → ℕ
unfolding is_anti_lyndon
longest_within zero w = 0
longest_within (suc k) w = elim (is_anti_lyndon (take (suc k) w)) [ true ↦ suc k | false ↦ longest_within k w ]

unfoldable pub longest_anti_lyndon : List ℕ → ℕ
unfolding longest_within
longest_anti_lyndon w = longest_within (length w) w

-- Lyndon factorization in the inverse order (strict cut): the longest anti-Lyndon prefix, then the same of the rest
unfoldable pub cfl_in_within : ℕ → List ℕ → List (List ℕ)
unfolding longest_anti_lyndon
cfl_in_within zero w = []
cfl_in_within (suc k) [] = []
cfl_in_within (suc k) (a ∷ w) = let n : ℕ = longest_anti_lyndon (a ∷ w) in take n (a ∷ w) ∷ cfl_in_within k (drop n (a ∷ w))

unfoldable pub cfl_in : List ℕ → List (List ℕ)
unfolding cfl_in_within
cfl_in w = cfl_in_within (length w) w

-- Lyndon table (start table): "at each place, the length of the longest strict word that starts there"
unfoldable pub lyndon_table : List ℕ → List ℕ
unfolding longest_anti_lyndon
lyndon_table [] = []
lyndon_table (a ∷ w) = longest_anti_lyndon (a ∷ w) ∷ lyndon_table w

-- ends: "the place just past the last byte" of each factor, where the first one begins at i
unfoldable pub ends_from : ℕ → List (List ℕ) → List ℕ
ends_from i [] = []
ends_from i (m ∷ ms) = (i + length m) ∷ ends_from (i + length m) ms

unfoldable pub icfl_ends : List ℕ → List ℕ
unfolding icfl ends_from
icfl_ends w = ends_from 0 (icfl w)

unfoldable pub cfl_in_ends : List ℕ → List ℕ
unfolding cfl_in ends_from
cfl_in_ends w = ends_from 0 (cfl_in w)
