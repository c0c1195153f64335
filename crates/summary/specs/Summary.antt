-- DEFINITIONS. The summary: "the number of pieces; the longest piece's length and first place, .. and the band counts". Request 101: "The summary
-- shall name the latest of the longest pieces."
use Rattle.std.specs.Prelude.{◌≡◌, Result, true, false, ◌&&◌, List, [], ◌∷◌, ◌++◌, map, ℕ, zero, suc, ◌-◌, ◌/◌, ◌≤◌, ◌<◌, max, length, get_or, replicate, eqb}
use Rattle.words.specs.Words.{most_letters}
use Rattle.words.specs.Pairs.{ends_of}
use Rattle.checks.specs.Lines.{Line, ◌unless◌then◌, pairs_line}
use Rattle.checks.specs.declared.refusals.Refusal.{Refusal}
use Rattle.checks.specs.Answers.{Says, gives, refuses, says_by}
use Rattle.summary.specs.declared.Summary.{Summary}

-- the summary's own line, tried past those at its door: 7, of a paired list
abbrev pub summary_lines : List ℕ → List ℕ → List Line
summary_lines w ps = pairs_line ps (length w) ∷ []

-- the lengths of the parts that end at es, the first of which begins at a
unfoldable pub lengths_from : ℕ → List ℕ → List ℕ
lengths_from a [] = []
lengths_from a (e ∷ es) = (e - a) ∷ lengths_from e es

-- the greatest entry, 0 for none
unfoldable pub greatest : List ℕ → ℕ
greatest [] = 0
greatest (n ∷ ns) = max n (greatest ns)

-- how many entries are k
unfoldable pub count_of : ℕ → List ℕ → ℕ
count_of k [] = 0
count_of k (n ∷ ns) = elim (eqb n k) [ true ↦ suc (count_of k ns) | false ↦ count_of k ns ]

-- where the latest part of length n begins: it has that length, and no part after it has; 0 if none has it; the parts as in lengths_from. What that
-- says of the longest part: SummaryStatements.
unfoldable pub start_of : ℕ → ℕ → List ℕ → ℕ
unfolding lengths_from count_of
start_of n a [] = 0
start_of n a (e ∷ es) = elim (eqb (e - a) n && eqb (count_of n (lengths_from e es)) 0) [ true ↦ a | false ↦ start_of n e es ]

-- the number of binary digits of an n below 2 ^ k: halving drops the last digit, and 0 has none
unfoldable pub bit_length_within : ℕ → ℕ → ℕ
bit_length_within zero n = 0
bit_length_within (suc k) zero = 0
bit_length_within (suc k) (suc n) = suc (bit_length_within k (suc n / 2))

unfoldable pub bit_length_of : ℕ → ℕ
unfolding bit_length_within
bit_length_of n = bit_length_within 16 n

-- "A piece's band is the number of binary digits of its length, 1 to 13": how many parts each band has
unfoldable pub bands_of : List ℕ → List ℕ
unfolding lengths_from bit_length_of count_of
bands_of es =
    let bands = map bit_length_of (lengths_from 0 es) in
    map (λ k. count_of k bands) (1 ∷ 2 ∷ 3 ∷ 4 ∷ 5 ∷ 6 ∷ 7 ∷ 8 ∷ 9 ∷ 10 ∷ 11 ∷ 12 ∷ 13 ∷ [])

-- the result
unfoldable pub summary_of : List ℕ → Summary
unfolding lengths_from greatest start_of bands_of
summary_of es =
    let longest = greatest (lengths_from 0 es) in
    record { count = length es; longest = longest; from = start_of longest 0 es; bands = bands_of es }

-- the numbers beside a refusal: "Where other numbers must stand beside it, as the summary's, they are 0."
abbrev pub no_summary : Summary
no_summary = record { count = 0; longest = 0; from = 0; bands = replicate 13 0 }

-- what an answer says
abbrev pub summary_says : Result Summary Refusal → Says Summary
summary_says r = says_by (λ s. s) r

-- the summary's promise, by the lines at its door: "the summary take[s] the paired list" (request 108), and sums up its ends
pub record Summarized (door : List Line) (w ps : List ℕ) (said : Says Summary) : Type 0 where
  pub answer : said ≡ gives (summary_of (ends_of ps)) unless door ++ summary_lines w ps then refuses

-- ---- inside

-- what the loop asks of the ends: each part begins before it ends, and no end and no number of parts is above the most letters
pub record Summable (es : List ℕ) : Type 0 where
  pub rising : (k : ℕ) → k < length es → get_or (0 ∷ es) k 0 < get_or es k 0
  pub short : (k : ℕ) → get_or es k 0 ≤ most_letters
  pub few : length es ≤ most_letters
