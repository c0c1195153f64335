-- What the judge's functions ask and promise; the judge itself, and what its number says, stands in theory/judging. No call's promise cites this file.
use Rattle.std.specs.Prelude.{◌≡◌, Option, Some, None, List, ℕ, ◌+◌, ◌≤◌, ◌<◌, length}
use Rattle.words.specs.Words.{most_letters}
use Rattle.theory.specs.Scan.Scanned.{Scanned}
use Rattle.scan.specs.declared.Scan.{Scan}

-- a scan with a border
pub record Bordered (w : List ℕ) (s : Scan) : Type 0 where
  pub short : length w ≤ most_letters
  pub scanned : Scanned w s.length s.border
  pub some : 0 < s.border

-- the scan of that border
pub record BorderScanned (w : List ℕ) (s r : Scan) : Type 0 where
  pub scanned : Scanned w r.length r.border
  pub whole : r.length ≡ s.border

-- a word that a scan has read whole, so that it is inverse Lyndon
pub record ScannedWhole (w : List ℕ) (s : Scan) : Type 0 where
  pub short : length w ≤ most_letters
  pub scanned : Scanned w s.length s.border
  pub whole : s.length ≡ length w

-- the judge's number q as the functions tell it: nothing where it is 0
abbrev pub Told : ℕ → Option ℕ → Type 0
Told q None = q ≡ 0
Told q (Some n) = (0 < n) × (q ≡ n)

pub record Neighbours (m n : List ℕ) (end : ℕ) (s : Scan) : Type 0 where
  pub after : 0 < end
  pub falling : ScannedWhole m s
  pub inside : end + length n ≤ most_letters

-- places of a record: a part, and where the next one ends
pub record Turn (w : List ℕ) (first end next : ℕ) : Type 0 where
  pub short : length w ≤ most_letters
  pub some : first < end
  pub after : end ≤ next
  pub inside : next ≤ length w
