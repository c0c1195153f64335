-- DEFINITIONS. What is said of the longest part, for a list of ends (LatestLongest), and of a length's band (Digits). That the summary's definitions are so
-- are theorems (proofs/LatestLongest, latest-longest and summary-latest; proofs/BitLengths, bit-length-digits).
use Rattle.std.specs.Prelude.{◌≡◌, List, ℕ, ◌+◌, ◌-◌, ◌^◌, ◌≤◌, ◌<◌}
use Rattle.theory.specs.Statements.{Part}

-- "the longest piece's length and first place"; request 101: "The summary shall name the latest of the longest pieces." The parts are those of demand 3: they
-- lie between neighbouring ends, the first from 0.
pub record LatestLongest (es : List ℕ) (longest from : ℕ) : Type 0 where
  -- a part of that length begins at that place
  pub begins : Part es from (from + longest)
  -- no part is longer
  pub most : (i j : ℕ) → Part es i j → j - i ≤ longest
  -- no later part has that length
  pub latest : (i j : ℕ) → Part es i j → from < i → ¬ (j - i ≡ longest)

-- "the number of binary digits of its length, 1 to 13"
pub record Digits (n digits : ℕ) : Type 0 where
  pub some : 1 ≤ digits
  pub most : digits ≤ 13
  pub from : 2 ^ (digits - 1) ≤ n
  pub below : n < 2 ^ digits
