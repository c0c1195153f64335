-- What the functions that find the longest Lyndon words of both orders ask and promise. No call's promise cites this file.
use Rattle.std.specs.Prelude.{◌≡◌, List, ℕ, ◌+◌, ◌≤◌, ◌<◌, length, get_or}
use Rattle.words.specs.Words.{most_letters}
use Rattle.theory.specs.Repetitions.TwoOrders.{longer_entry}
use Rattle.common.specs.Orders.{most_byte}

-- the entry at a place is the longer one of both orders
pub record LongestKnown (w longest : List ℕ) (j : ℕ) : Type 0 where
  pub inside : j < length w
  pub room : length w ≤ length longest
  pub entry : get_or longest j 0 ≡ longer_entry most_byte w j

-- so are those after it
pub record LongestAfter (w longest : List ℕ) (i : ℕ) : Type 0 where
  pub inside : i < length w
  pub room : length w ≤ length longest
  pub entries : (k : ℕ) → i < k → k < length w → get_or longest k 0 ≡ longer_entry most_byte w k

-- there is a place after it
pub record NextAfter (w longest : List ℕ) (i : ℕ) : Type 0 where
  pub after : LongestAfter w longest i
  pub next : i + 1 < length w

-- the entries fit into 16 bits, and there is room for them
pub record LongestRoom (w longest : List ℕ) : Type 0 where
  pub short : length w ≤ most_letters
  pub room : length w ≤ length longest

-- all entries
pub record LongestFilled (w longest : List ℕ) : Type 0 where
  pub room : length w ≤ length longest
  pub entries : (k : ℕ) → k < length w → get_or longest k 0 ≡ longer_entry most_byte w k
