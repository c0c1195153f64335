-- What the functions that write a listing ask and promise. No call's promise cites this file.
use Rattle.std.specs.Prelude.{◌≡◌, List, [], ◌∷◌, ℕ, ◌+◌, ◌*◌, ◌≤◌, length}
use Rattle.words.specs.Words.{most_letters}
use Rattle.words.specs.Separated.{separated_cfl_in_ends}
use Rattle.words.specs.Pairs.{separated_pairs}
use Rattle.summary.specs.declared.Summary.{Summary}
use Rattle.listing.specs.Listing.{lines_of}

-- how long texts are together
abbrev pub total : List (List ℕ) → ℕ
total [] = 0
total (text ∷ texts) = length text + total texts

-- what the seven lines need
pub record Printable (n : ℕ) (pairs strict : List ℕ) (summary : Summary) (out : List ℕ) : Type 0 where
  pub room : total (lines_of n pairs strict summary) ≤ length out
  pub thirteen : 13 ≡ length summary.bands

-- what both cuts of a record write, and room for its listing
pub record CutLists (w pairs strict out : List ℕ) : Type 0 where
  pub pieces : pairs ≡ separated_pairs w
  pub stricts : strict ≡ separated_cfl_in_ends w
  pub writing : 15 * most_letters + 256 ≤ length out

-- buffers with room for every record: three entries a letter, two for each piece and one for each strict piece, of which there are no more than letters; for
-- the listing five bytes an entry of each cut, and 256 for all else
pub record ListingRoom (work pairs strict out : List ℕ) : Type 0 where
  pub working : 3 * most_letters ≤ length work
  pub cutting : 2 * most_letters ≤ length pairs
  pub strict_cutting : most_letters ≤ length strict
  pub writing : 15 * most_letters + 256 ≤ length out
