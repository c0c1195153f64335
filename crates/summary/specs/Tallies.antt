-- What the tally of parts asks and promises as they come, for the ends es of all of them: what it has of the parts before a, taken together with those that
-- follow, is the definition's value for the whole list. No call's promise cites this file.
use Rattle.std.specs.Prelude.{◌≡◌, List, ◌∷◌, map, ℕ, suc, ◌+◌, ◌≤◌, ◌<◌, max, length, get_or, drop}
use Rattle.summary.specs.Summary.{lengths_from, greatest, start_of, bit_length_of, count_of, Summable}
use Rattle.summary.specs.declared.Tally.{Tally}

-- the whole list's greatest length
abbrev pub longest_of : List ℕ → ℕ
longest_of es = greatest (lengths_from 0 es)

-- the parts that follow begin at a and end at rs
pub record LongestSoFar (es : List ℕ) (longest from a : ℕ) (rs : List ℕ) : Type 0 where
  pub most : max longest (greatest (lengths_from a rs)) ≡ longest_of es
  -- before the first part
  pub none : longest ≡ 0 → from ≡ 0
  -- all later parts are shorter, or the latest of the longest is among them
  pub settled : greatest (lengths_from a rs) < longest → from ≡ start_of (longest_of es) 0 es
  pub ahead : longest ≤ greatest (lengths_from a rs) → start_of (longest_of es) a rs ≡ start_of (longest_of es) 0 es

-- the bands of the parts that end at es, the first of which begins at a
abbrev pub bands_from : ℕ → List ℕ → List ℕ
bands_from a es = map bit_length_of (lengths_from a es)

pub record Banded (es bands : List ℕ) (a : ℕ) (rs : List ℕ) : Type 0 where
  pub thirteen : length bands ≡ 13
  pub counts : (k : ℕ) → k < 13 → get_or bands k 0 + count_of (suc k) (bands_from a rs) ≡ count_of (suc k) (bands_from 0 es)

pub record SummedUpTo (es : List ℕ) (longest from : ℕ) (bands : List ℕ) (last i : ℕ) : Type 0 where
  pub inside : i ≤ length es
  pub last-is : last ≡ get_or (0 ∷ es) i 0
  pub longest-is : LongestSoFar es longest from last (drop i es)
  pub bands-are : Banded es bands last (drop i es)

pub record Tallied (es : List ℕ) (t : Tally) : Type 0 where
  pub summed : SummedUpTo es t.summary.longest t.summary.from t.summary.bands t.last t.summary.count

-- the end of the next part
pub record NextEnd (es : List ℕ) (t : Tally) (end : ℕ) : Type 0 where
  pub summable : Summable es
  pub tallied : Tallied es t
  pub some : t.summary.count < length es
  pub is : end ≡ get_or es t.summary.count 0
