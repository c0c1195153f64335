-- DEFINITIONS. Request 106: "What a pair of words tells of its eight bytes is promised" (PairTells), by the functions that the comparison calls; no call's
-- promise cites this file.
use Rattle.std.specs.Prelude.{◌≡◌, List, [], ◌∷◌, ℕ, ◌+◌, ◌*◌, ◌≤◌, ◌<◌, length, get_or}
use Rattle.std.proofs.Math.Seq.{slice}
use Rattle.words.specs.Words.{common_length_of}

-- the number whose digits in base 256 the letters are, the first one lowest (little-endian)
unfoldable pub little_endian : List ℕ → ℕ
little_endian [] = 0
little_endian (a ∷ x) = a + 256 * little_endian x

-- every letter is a byte
abbrev pub Bytes : List ℕ → Type 0
Bytes x = (t : ℕ) → get_or x t 0 < 256

-- "Read a word of eight bytes where eight remain": v is the number of the n letters of x from l on
pub record NumberAt (n : ℕ) (x : List ℕ) (l v : ℕ) : Type 0 where
  pub remain : l + n ≤ length x
  pub bytes : Bytes x
  pub number_is : v ≡ little_endian (slice l (l + n) x)

-- of two slices whose eight letters from l on have the numbers v and w, r is the common length of these two stretches of eight, so 8 if they are equal
pub record PairTells (v w r : ℕ) : Type 0 where
  pub common-is : (x y : List ℕ) (l : ℕ) → NumberAt 8 x l v → NumberAt 8 y l w → r ≡ common_length_of (slice l (l + 8) x) (slice l (l + 8) y)
