-- DEFINITIONS. The answers of the library's calls as numbers: the refusal's number, 0 for a result, and beside it the result's numbers, 0 with a refusal.
use Rattle.std.specs.Prelude.{◌≡◌, Option, None, Some, List, map, ℕ, ◌≤◌, ◌<◌, length, get_or, ℤ, pos}
use Rattle.conditions.specs.Conditions.{most_records}
use Rattle.checks.specs.Answers.{checked_number, Says, gives, refuses, checked, values_or}
use Rattle.extension.specs.declared.Extension.{Extension}
use Rattle.batch.specs.Batch.{places_of}
use Rattle.summary.specs.declared.Summary.{Summary}
use Rattle.summary.specs.Summary.{summary_of, no_summary}
use Rattle.numbers.specs.declared.Reply.{Reply}
use Rattle.numbers.specs.declared.Replies.{Replies}
use Rattle.numbers.specs.declared.SummaryReply.{SummaryReply}

-- what is said, as numbers: the refusal's, 0 for a result, and beside it the values, `none` with a refusal
abbrev pub numbers_or : {A : Type 0} → A → Says A → ℕ × A
numbers_or none said = (checked_number (checked said), values_or none said)

-- the refusal, the count
abbrev pub count_numbers : Says ℕ → ℕ × ℕ
count_numbers said = numbers_or 0 said

-- the refusal, L, |p| and |r|, all 0 for an inverse Lyndon word
abbrev pub extension_numbers : Option Extension → ℕ × ℕ × ℕ
extension_numbers None = (0, 0, 0)
extension_numbers (Some x) = (x.failing, x.prefix, x.border)

abbrev pub test_numbers : Says (Option Extension) → ℕ × ℕ × ℕ × ℕ
test_numbers said =
    let (number, verdict) = numbers_or None said in
    let (failing, prefix, border) = extension_numbers verdict in
    (number, failing, prefix, border)

-- the refusal, the number of factors, that of breaks
abbrev pub breaks_numbers : Says (ℕ × ℕ) → ℕ × ℕ × ℕ
breaks_numbers said = let (number, (factors, breaks)) = numbers_or (0, 0) said in (number, factors, breaks)

-- the refusal, the sign, how far the two agree
abbrev pub comparison_numbers : Says (ℤ × ℕ) → ℕ × ℤ × ℕ
comparison_numbers said = let (number, (sign, common)) = numbers_or (pos 0, 0) said in (number, sign, common)

-- the same two numbers as of a count, for each place of a batch
abbrev pub reply_of : Says ℕ → Reply
reply_of said = let (number, count) = numbers_or 0 said in record { refusal = number; count = count }

-- the refusal, and a reply for each place
abbrev pub batch_numbers : ℕ × List (Says ℕ) → Replies
batch_numbers said = let (number, places) = said in record { refusal = number; replies = map reply_of places }

-- the refusal, and the summary's numbers
abbrev pub summary_numbers : Says Summary → SummaryReply
summary_numbers said =
    let (number, s) = numbers_or no_summary said in
    record { refusal = number; count = s.count; longest = s.longest; from = s.from; bands = s.bands }

-- those of a result, for a list of ends, and of a refusal: beside it all others are 0
abbrev pub summary_reply : List ℕ → SummaryReply
summary_reply es = summary_numbers (gives (summary_of es))

abbrev pub empty_reply : ℕ → SummaryReply
empty_reply number = summary_numbers (refuses number)

-- ---- what the functions ask: that the numbers fit

-- into sixteen bits
abbrev pub Small : ℕ → Type 0
Small n = n < 65536

abbrev pub SmallCount : Says ℕ → Type 0
SmallCount said = Small (values_or 0 said)

abbrev pub SmallTest : Says (Option Extension) → Type 0
SmallTest said = let (failing, prefix, border) = extension_numbers (values_or None said) in Small failing × Small prefix × Small border

abbrev pub SmallBreaks : Says (ℕ × ℕ) → Type 0
SmallBreaks said = let (factors, breaks) = values_or (0, 0) said in Small factors × Small breaks

abbrev pub SmallComparison : Says (ℤ × ℕ) → Type 0
SmallComparison said = Small (values_or (pos 0, 0) said).1

-- the places say what at most so many answers do, each with a count that fits
pub record SmallBatch (said : ℕ × List (Says ℕ)) (records : ℕ) : Type 0 where
  pub answers : List (Says ℕ)
  pub placed : said.1 ≡ places_of answers
  pub small : (i : ℕ) → SmallCount (get_or answers i (gives 0))
  pub within : length answers ≤ records
  pub few : length answers ≤ most_records
