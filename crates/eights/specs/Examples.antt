-- THEOREM examples. The definitions compute: two bytes as a number; of two words that part at their sixth letter, how many bytes the trailing zeros of the
-- exclusive or of their numbers make, and their common length, both 5; of a word with itself, both 8.
use Rattle.std.specs.Prelude.{◌≡◌, refl, List, [], ◌∷◌, ℕ, ◌/◌}
use Rattle.std.specs.Int.Count.{count_trailing_zeros}
use Rattle.std.specs.Int.Bits.{bit_xor}
use Rattle.words.specs.Words.{common_length_of}
use Rattle.eights.specs.Eights.{little_endian}

-- c b a b a c b a and c b a b a d b a
abbrev x : List ℕ
x = 99 ∷ 98 ∷ 97 ∷ 98 ∷ 97 ∷ 99 ∷ 98 ∷ 97 ∷ []

abbrev y : List ℕ
y = 99 ∷ 98 ∷ 97 ∷ 98 ∷ 97 ∷ 100 ∷ 98 ∷ 97 ∷ []

pub record Examples : Type 0 where
  pub first-lowest : little_endian (1 ∷ 2 ∷ []) ≡ 513
  pub five-bytes : count_trailing_zeros 64 (bit_xor (little_endian x) (little_endian y)) / 8 ≡ 5
  pub five-letters : common_length_of x y ≡ 5
  pub eight-bytes : count_trailing_zeros 64 (bit_xor (little_endian x) (little_endian x)) / 8 ≡ 8
  pub eight-letters : common_length_of x x ≡ 8

pub examples : Examples
unfolding little_endian count_trailing_zeros common_length_of
examples = record { first-lowest = refl; five-bytes = refl; five-letters = refl; eight-bytes = refl; eight-letters = refl }
