-- What writing the pairs asks. No call's promise cites this file.
use Rattle.std.specs.Prelude.{◌≡◌, List, ℕ, ◌*◌, ◌≤◌, length}
use Rattle.words.specs.Words.{most_letters}
use Rattle.words.specs.Separated.{separated_icfl_ends}

pub record PairsRoom (w ends pairs : List ℕ) : Type 0 where
  pub short : length w ≤ most_letters
  pub right : ends ≡ separated_icfl_ends w
  pub entries : 2 * length ends ≤ length pairs
