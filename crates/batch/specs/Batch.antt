-- DEFINITIONS. A batch (paper 02: a card, request 105): up to 64 records one after another are cut in one call (BatchDone).
use Rattle.std.specs.Prelude.{◌≡◌, Result, Ok, Err, List, [], ◌∷◌, ◌++◌, map, ℕ, ◌+◌, ◌-◌, ◌*◌, length, take, drop, replicate}
use Rattle.std.proofs.Math.Seq.{slice}
use Rattle.conditions.specs.Conditions.{most_records}
use Rattle.checks.specs.Lines.{Line, Door, ◌unless◌then◌, record_ends_line}
use Rattle.checks.specs.declared.refusals.Refusal.{Refusal}
use Rattle.checks.specs.Answers.{number_of, Says, gives, refuses, count_says}
use Rattle.icfl.specs.Icfl.{icfl_answer, icfl_result, icfl_work}

-- ---- the records, and their cutting

-- "records one after another, .. a list .. of where each ends": those that end at es, the first of which begins at a
unfoldable pub records_from : ℕ → List ℕ → List ℕ → List (List ℕ)
records_from a [] bytes = []
records_from a (e ∷ es) bytes = slice a e bytes ∷ records_from e es bytes

-- a batch in the middle of its cutting: the answers so far, both buffers, and how many entries of the result buffer are used
pub record Progress : Type 0 where
  pub answers : List (Says ℕ)
  pub work : List ℕ
  pub pairs : List ℕ
  pub used : ℕ

-- the entries that an answer uses, a pair for each piece (request 108); "A refused record uses none of it"
abbrev pub used_entries : Says ℕ → ℕ
used_entries (gives n) = 2 * n
used_entries (refuses number) = 0

-- the next record, cut behind the lines of a door: "Each record's answer, refusal included, is the one a single call gives with what is left of the result
-- buffer."
unfoldable pub cut_record : Door → Progress → List ℕ → Progress
cut_record door p w =
    let left = drop p.used p.pairs in
    record {
      answers = p.answers ++ icfl_answer (door w) w p.work left ∷ [];
      work = icfl_work (door w) w p.work left;
      pairs = take p.used p.pairs ++ icfl_result (door w) w p.work left;
      used = p.used + used_entries (icfl_answer (door w) w p.work left);
    }

-- ".. and the next one is still tried": a fold over the records
unfoldable pub cut_records : Door → Progress → List (List ℕ) → Progress
unfolding cut_record
cut_records door p [] = p
cut_records door p (w ∷ ws) = cut_records door (cut_record door p w) ws

-- before the first record
abbrev pub uncut : (work pairs : List ℕ) → Progress
uncut work pairs = record { answers = []; work = work; pairs = pairs; used = 0 }

abbrev pub batch_of : Door → (bytes es work pairs : List ℕ) → Progress
batch_of door bytes es work pairs = cut_records door (uncut work pairs) (records_from 0 es bytes)

-- ---- the call

-- the type of a batch's answer: that of each place, or the refusal of the list
abbrev pub BatchAnswer : Type 0
BatchAnswer = Result (List (Result ℕ Refusal)) Refusal

-- what each place says
abbrev pub says_of : List (Result ℕ Refusal) → List (Says ℕ)
says_of places = map count_says places

-- "The answers come in the card's order, in 64 places; those past the last record hold a result of 0."
abbrev pub places_of : List (Says ℕ) → List (Says ℕ)
places_of answers = answers ++ replicate (most_records - length answers) (gives 0)

-- what an answer says: the refusal's number, 0 for none, and beside it the places; beside a refusal all hold "a result of 0"
abbrev pub batch_says : BatchAnswer → ℕ × List (Says ℕ)
batch_says (Ok places) = (0, says_of places)
batch_says (Err refusal) = (number_of refusal, places_of [])

abbrev pub batch_with : ℕ → List (Says ℕ) → ℕ × List (Says ℕ)
batch_with number answers = (number, places_of answers)

-- 10, "checked before any record"
abbrev pub batch_lines : List ℕ → ℕ → List Line
batch_lines es n = record_ends_line es n ∷ []

-- the call's promise, each record cut behind a door: its answer, 0 or 10 with all places (with 10 all hold "a result of 0"), and both buffers whole
pub record BatchDone (door : Door) (bytes es work pairs : List ℕ) (said : ℕ × List (Says ℕ)) (work' pairs' : List ℕ) : Type 0 where
  pub answer : said ≡ batch_with 0 (batch_of door bytes es work pairs).answers unless batch_lines es (length bytes) then (λ number. batch_with number [])
  pub result : pairs' ≡ (batch_of door bytes es work pairs).pairs unless batch_lines es (length bytes) then (λ number. pairs)
  pub worked : work' ≡ (batch_of door bytes es work pairs).work unless batch_lines es (length bytes) then (λ number. work)
