-- DEFINITIONS. Paper 01's table of refusals, and the lines that requests add. A line is a number under a condition; a call tries its lines in their
-- order, and what it answers and leaves in a buffer is `result unless lines then refusal`. Which lines a call tries stands with the call.
use Rattle.std.specs.Prelude.{Bool, true, false, ◌||◌, List, [], ◌∷◌, ℕ, ◌≤◌, ◌<◌, length, leb, ltb, eqb}
use Rattle.words.specs.Words.{most_letters}
use Rattle.words.specs.Separated.{has_mark}
use Rattle.conditions.specs.Conditions.{are_faulty_record_ends}
use Rattle.pairs.specs.PairedList.{are_faulty_pairs}

infix 70 ◌when◌
infix 5 ◌unless◌then◌
-- a line of the table: its number, and whether its condition is met
pub data Line : Type 0 where
  ◌when◌ : ℕ → Bool → Line

-- what the lines of a call say: passed, or the number of the line that is met
pub data Checked : Type 0 where
  Passed : Checked
  Refused : ℕ → Checked

-- "A line of the table is tried only when the lines above it have passed, and is met only under its condition."
unfoldable pub tried : List Line → Checked
tried [] = Passed
tried (number when true ∷ lines) = Refused number
tried (number when false ∷ lines) = tried lines

-- one value for passed checks, and one for each number
abbrev pub decided : {A : Type 0} → Checked → A → (ℕ → A) → A
decided Passed result refusal = result
decided (Refused number) result refusal = refusal number

-- "An answer is a result or a refusal number, never both": the result if no line is met, otherwise what the first number met stands for
abbrev pub ◌unless◌then◌ : {A : Type 0} → A → List Line → (ℕ → A) → A
result unless lines then refusal = decided (tried lines) result refusal

-- ---- the lines of the table

-- "length 0"; "length above 4,096"
abbrev pub record_lines : List ℕ → List Line
record_lines w = 1 when eqb (length w) 0 ∷ 2 when ltb most_letters (length w) ∷ []

-- the lines at a call's door, for each record: it tries them before its own. Those of every call are the record's.
abbrev pub Door : Type 0
Door = List ℕ → List Line

-- a record that passes the record's lines
pub record Accepted (w : List ℕ) : Type 0 where
  pub nonempty : 0 < length w
  pub short : length w ≤ most_letters

-- "fewer entries than" are needed, in the work buffer
abbrev pub work_line : ℕ → ℕ → Line
work_line entries needed = 3 when ltb entries needed

-- "fewer entries than the answer has", in the result buffer
abbrev pub result_line : ℕ → ℕ → Line
result_line entries needed = 4 when ltb entries needed

-- "first place not below the end, or end above the length"
abbrev pub range_line : ℕ → ℕ → ℕ → Line
range_line n first end = 5 when (leb end first || ltb n end)

-- "a start below the first place, or not below the end"; a line for each of the two starts
abbrev pub start_line : ℕ → ℕ → ℕ → Line
start_line first end start = 6 when (ltb start first || leb end start)

-- request 108: the list of pairs is faulty
abbrev pub pairs_line : List ℕ → ℕ → Line
pairs_line ps n = 7 when are_faulty_pairs ps n

-- "not below the number of ends", those of the pairs
abbrev pub number_line : ℕ → ℕ → Line
number_line number count = 8 when leb count number

-- request 103: "a test of a record that holds a mark"
abbrev pub mark_line : List ℕ → Line
mark_line w = 9 when has_mark w

-- request 105: the list of where the records of a batch end is faulty
abbrev pub record_ends_line : List ℕ → ℕ → Line
record_ends_line es n = 10 when are_faulty_record_ends es n
