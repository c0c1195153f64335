-- DEFINITIONS. What an answer says, by paper 01's number and values for each of its cases, and what a call that fills a result buffer answers and leaves in it.
-- Every promise of a Result is about what it says.
use Rattle.std.specs.Prelude.{◌≡◌, List, ℕ, zero, suc, Result, Ok, Err}
use Rattle.buffers.specs.Buffers.{written}
use Rattle.checks.specs.Lines.{Line, Checked, Passed, Refused, decided, ◌unless◌then◌}
use Rattle.checks.specs.declared.refusals.Refusal.{Refusal}
use Rattle.checks.specs.declared.refusals.Refusal.TheVariants.{
  Empty,
  TooLong,
  WorkTooShort,
  ResultTooShort,
  BadRange,
  BadStart,
  FaultyPairs,
  NoSuchPart,
  Marked,
  FaultyRecordEnds,
}

-- the number that the table gives a line
abbrev pub number_of : Refusal → ℕ
number_of Empty = 1
number_of TooLong = 2
number_of WorkTooShort = 3
number_of ResultTooShort = 4
number_of BadRange = 5
number_of BadStart = 6
number_of FaultyPairs = 7
number_of NoSuchPart = 8
number_of Marked = 9
number_of FaultyRecordEnds = 10

-- what an answer says of the lines
abbrev pub outcome : {T : Type 0} → Result T Refusal → Checked
outcome (Ok x) = Passed
outcome (Err refusal) = Refused (number_of refusal)

-- the number of a check, 0 for none
abbrev pub checked_number : Checked → ℕ
checked_number k = decided k 0 (λ number. number)

-- what a number that a caller is given says: "0 for a result"
abbrev pub numbered : ℕ → Checked
numbered zero = Passed
numbered (suc number) = Refused (suc number)

-- "An answer is a result or a refusal number, never both": the values of the result, or the number
pub data Says (A : Type 0) : Type 0 where
  gives : A → Says A
  refuses : ℕ → Says A

-- whether it is a result, or else the number
abbrev pub checked : {A : Type 0} → Says A → Checked
checked (gives values) = Passed
checked (refuses number) = Refused number

-- the values; for a refusal those given here
abbrev pub values_or : {A : Type 0} → A → Says A → A
values_or none (gives values) = values
values_or none (refuses number) = none

-- what an answer says, its values read off the result
abbrev pub says_by : {T A : Type 0} → (T → A) → Result T Refusal → Says A
says_by values (Ok x) = gives (values x)
says_by values (Err refusal) = refuses (number_of refusal)

-- the answer of a cut, a table or a list: the number of what was found
abbrev pub count_says : Result ℕ Refusal → Says ℕ
count_says r = says_by (λ n. n) r

-- what a call says that fills a result buffer with vs and answers n, and what it leaves there: "An accepted cut or start table writes exactly the answer's
-- entries, from entry 0"; "Result buffers are untouched by a refusal."
pub record Filled (lines : List Line) (n : ℕ) (vs buffer : List ℕ) (said : Says ℕ) (buffer' : List ℕ) : Type 0 where
  pub answer : said ≡ gives n unless lines then refuses
  pub result : buffer' ≡ written vs buffer unless lines then (λ number. buffer)
