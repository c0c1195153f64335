-- What the comparison of letters and words in either order of the letters asks and decides. No call's promise cites this file.
use Rattle.std.specs.Prelude.{Bool, true, false, List, ℕ, ◌<◌, length}
use Rattle.theory.specs.Repetitions.TwoOrders.{reversed}

-- the greatest byte
abbrev pub most_byte : ℕ
most_byte = 255

-- a word whose letters are taken in the natural order, or as it is: all definitions of words take them in the inverse one
abbrev pub in_order : Bool → List ℕ → List ℕ
in_order true w = reversed most_byte w
in_order false w = w

-- a comes before b in that order
abbrev pub Precedes : Bool → ℕ → ℕ → Type 0
Precedes true a b = a < b
Precedes false a b = b < a

-- neither word is empty
pub record BothBegin (u v : List ℕ) : Type 0 where
  pub left : 0 < length u
  pub right : 0 < length v
