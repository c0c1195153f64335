-- DEFINITIONS. The calls that the customer's demands speak of (Calls): the library's, by their promises, and the exported functions, by the numbers that they
-- give and what these stand for. Both are those behind the record's lines; nothing else here knows which lines stand at a door.
use Rattle.std.specs.Prelude.{◌≡◌, true, false, List, map, ℕ, ℤ, eqb, Option, None, Some}
use Rattle.std.proofs.Math.Seq.{slice}
use Rattle.extension.specs.declared.Extension.{Extension}
use Rattle.checks.specs.Lines.{Door, decided, record_lines}
use Rattle.checks.specs.Answers.{numbered, Says, gives, refuses}
use Rattle.extension.specs.Extension.{ExtensionFound}
use Rattle.icfl.specs.Icfl.{IcflDone}
use Rattle.icfl_breaks.specs.IcflBreaks.{BreaksDone}
use Rattle.batch.specs.Batch.{BatchDone}
use Rattle.cfl.specs.CflIn.{CflInDone}
use Rattle.table.specs.Table.{Tabled}
use Rattle.runs.specs.Runs.{RunsDone}
use Rattle.compare.specs.Compare.{Compared}
use Rattle.reading.specs.Factor.{FactorAt}
use Rattle.numbers.specs.declared.SummaryReply.{SummaryReply}
use Rattle.summary.specs.Summary.{Summarized}
use Rattle.numbers.specs.declared.Replies.{Replies}
use Rattle.numbers.specs.Numbers.{test_numbers, count_numbers, breaks_numbers, batch_numbers, comparison_numbers, summary_numbers}
use Rattle.exports.specs.Exports.{export_door, Gives, factor_numbers}

-- ---- the calls: what each may say, with which contents of the lent buffers afterwards; the summary by its numbers

pub record Calls : Type 1 where
  pub Test : (w work : List ℕ) (r : Says (Option Extension)) (work' : List ℕ) → Type 0
  pub PieceCut : (w work pairs : List ℕ) (r : Says ℕ) (work' pairs' : List ℕ) → Type 0
  pub ReasonedCut : (w work pairs breaks : List ℕ) (r : Says (ℕ × ℕ)) (work' pairs' breaks' : List ℕ) → Type 0
  pub CardCut : (bytes es work pairs : List ℕ) (r : ℕ × List (Says ℕ)) (work' pairs' : List ℕ) → Type 0
  pub StrictCut : (w ends : List ℕ) (r : Says ℕ) (ends' : List ℕ) → Type 0
  pub StartTable : (w out : List ℕ) (r : Says ℕ) (out' : List ℕ) → Type 0
  pub Repetitions : (w out : List ℕ) (r : Says ℕ) (out' : List ℕ) → Type 0
  pub Comparing : (w : List ℕ) (first end start other : ℕ) (r : Says (ℤ × ℕ)) → Type 0
  pub Reading : (w ps : List ℕ) (k : ℕ) (part : List ℕ) (number : ℕ) → Type 0
  pub Summing : (w ps : List ℕ) (r : SummaryReply) → Type 0

-- the calls behind the lines of a door, by their promises
abbrev pub behind : Door → Calls
behind door = record {
  Test = λ w. ExtensionFound (door w) w;
  PieceCut = λ w. IcflDone (door w) w;
  ReasonedCut = λ w. BreaksDone (door w) w;
  CardCut = BatchDone door;
  StrictCut = λ w. CflInDone (door w) w;
  StartTable = λ w. Tabled (door w) w;
  Repetitions = λ w. RunsDone (door w) w;
  Comparing = λ w. Compared (door w) w;
  Reading = λ w. FactorAt (door w) w;
  Summing = λ w ps r. Gives summary_numbers r (Summarized (door w) w ps);
}

-- the library's
abbrev pub library : Calls
library = behind record_lines

-- ---- the exported functions

-- what the numbers of an exported function stand for: a refusal's number, 0 for a result, and the result's; L is 0 for an inverse Lyndon word
abbrev pub verdict_by : ℕ × ℕ × ℕ × ℕ → Says (Option Extension)
verdict_by (number, failing, prefix, border) =
    decided (numbered number)
    (elim (eqb failing 0) [ true ↦ gives None | false ↦ gives (Some (record { failing = failing; prefix = prefix; border = border })) ]) refuses

abbrev pub count_by : ℕ × ℕ → Says ℕ
count_by (number, count) = decided (numbered number) (gives count) refuses

abbrev pub counts_by : ℕ × ℕ × ℕ → Says (ℕ × ℕ)
counts_by (number, factors, breaks) = decided (numbered number) (gives (factors, breaks)) refuses

abbrev pub batch_by : Replies → ℕ × List (Says ℕ)
batch_by x = (x.refusal, map (λ y. count_by (y.refusal, y.count)) x.replies)

abbrev pub comparison_by : ℕ × ℤ × ℕ → Says (ℤ × ℕ)
comparison_by (number, sign, common) = decided (numbered number) (gives (sign, common)) refuses

-- r is what numbers stand for that are given
abbrev pub Reads : {A N : Type 0} → (A → N) → (N → A) → A → (A → Type 0) → Type 0
Reads {N = N} numbers by r Allowed = (x : N) × (r ≡ by x) × Gives numbers x Allowed

-- those behind the lines of a door: the numbers of an answer that the call may give
abbrev pub exported_behind : Door → Calls
exported_behind door =
    let calls = behind door in
    record {
      Test = λ w work r work'. Reads test_numbers verdict_by r (λ a. calls.Test w work a work');
      PieceCut = λ w work pairs r work' pairs'. Reads count_numbers count_by r (λ a. calls.PieceCut w work pairs a work' pairs');
      ReasonedCut = λ w work pairs breaks r work' pairs' breaks'.
          Reads breaks_numbers counts_by r (λ a. calls.ReasonedCut w work pairs breaks a work' pairs' breaks');
      CardCut = λ bytes es work pairs r work' pairs'. Reads batch_numbers batch_by r (λ a. calls.CardCut bytes es work pairs a work' pairs');
      StrictCut = λ w ends r ends'. Reads count_numbers count_by r (λ a. calls.StrictCut w ends a ends');
      StartTable = λ w out r out'. Reads count_numbers count_by r (λ a. calls.StartTable w out a out');
      Repetitions = λ w out r out'. Reads count_numbers count_by r (λ a. calls.Repetitions w out a out');
      Comparing = λ w first end start other r. Reads comparison_numbers comparison_by r (λ a. calls.Comparing w first end start other a);
      Reading = λ w ps k part number. (i j : ℕ) × (part ≡ slice i j w) × ((number, i, j) ≡ factor_numbers (door w) w ps k);
      Summing = calls.Summing;
    }

abbrev pub exported : Calls
exported = exported_behind export_door
