-- DEFINITIONS. What the piece cut answers, writes and leaves in the work buffer (IcflDone).
use Rattle.std.specs.Prelude.{◌≡◌, true, false, List, [], ◌∷◌, ◌++◌, ℕ, ◌*◌, ◌≤◌, length, eqb}
use Rattle.words.specs.Words.{most_letters}
use Rattle.words.specs.Separated.{separated_icfl_ends}
use Rattle.words.specs.Pairs.{separated_pairs}
use Rattle.buffers.specs.Buffers.{cleared, written}
use Rattle.checks.specs.Lines.{Line, ◌unless◌then◌, work_line, result_line}
use Rattle.checks.specs.Answers.{Says, gives, refuses, Filled}

-- the piece cut's own lines, tried past those at its door: 3 before its work, then 4, which "counts both numbers" of an entry (request 108)
abbrev pub icfl_lines : List ℕ → ℕ → ℕ → List Line
icfl_lines w work entries = work_line work (3 * length w) ∷ result_line entries (2 * length (separated_icfl_ends w)) ∷ []

-- "Every refusal but 4 leaves the work buffer untouched too. .. after a cut refused by 4, the entries counted in line 3 are zero and later ones unchanged."
abbrev pub work_after : ℕ → List ℕ → ℕ → List ℕ
work_after n work number = elim (eqb number 4) [ true ↦ cleared n work | false ↦ work ]

-- ---- the call behind the lines of a door: its answer, "the number of pieces"; the result buffer, with a pair for each of them; and the work buffer, cleared
-- "after an accepted cut"

abbrev pub icfl_answer : (door : List Line) (w work pairs : List ℕ) → Says ℕ
icfl_answer door w work pairs = gives (length (separated_icfl_ends w)) unless door ++ icfl_lines w (length work) (length pairs) then refuses

abbrev pub icfl_result : (door : List Line) (w work pairs : List ℕ) → List ℕ
icfl_result door w work pairs = written (separated_pairs w) pairs unless door ++ icfl_lines w (length work) (length pairs) then (λ number. pairs)

abbrev pub icfl_work : (door : List Line) (w work pairs : List ℕ) → List ℕ
icfl_work door w work pairs = cleared (3 * length w) work unless door ++ icfl_lines w (length work) (length pairs) then work_after (3 * length w) work

-- the call's promise
pub record IcflDone (door : List Line) (w work pairs : List ℕ) (said : Says ℕ) (work' pairs' : List ℕ) : Type 0 where
  pub answer : said ≡ icfl_answer door w work pairs
  pub result : pairs' ≡ icfl_result door w work pairs
  pub worked : work' ≡ icfl_work door w work pairs

-- ---- what writing the pairs asks and promises

-- the ends of the factors of a word that was accepted, or of a part of one
pub record EndsFound (w ends : List ℕ) : Type 0 where
  pub short : length w ≤ most_letters
  pub right : ends ≡ separated_icfl_ends w

-- line 4 alone is tried
abbrev pub PairsFilled : (w pairs : List ℕ) → Says ℕ → List ℕ → Type 0
PairsFilled w pairs said pairs' =
    Filled (result_line (length pairs) (2 * length (separated_icfl_ends w)) ∷ []) (length (separated_icfl_ends w)) (separated_pairs w) pairs said pairs'
