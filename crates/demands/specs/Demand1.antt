-- DEFINITIONS. Demand 1: "The answer to every call, for every input, is a result or one of eight numbered refusals; .. and paper 01 fixes the condition, the
-- order and every buffer for each refusal." Request 103: "Demand 1's eight refusals grow by each number named from here on": 9, and 10 of request 105.
use Rattle.std.specs.Prelude.{◌≡◌, ℕ, ◌*◌, ◌<◌, length, take, drop, replicate, ℤ, Option}
use mathlib.Core.List.{List, [], ◌∷◌, ◌++◌, Memᴰ}
use Rattle.words.specs.Words.{most_letters}
use Rattle.checks.specs.Lines.{Line, Door, tried, record_lines, Checked, Refused}
use Rattle.checks.specs.Answers.{numbered, checked, Says}
use Rattle.extension.specs.Extension.{extension_lines}
use Rattle.icfl.specs.Icfl.{icfl_lines}
use Rattle.icfl_breaks.specs.IcflBreaks.{breaks_lines}
use Rattle.batch.specs.Batch.{places_of, batch_lines}
use Rattle.cfl.specs.CflIn.{cfl_in_lines}
use Rattle.table.specs.Table.{table_lines}
use Rattle.runs.specs.Runs.{runs_lines}
use Rattle.compare.specs.Compare.{compare_lines}
use Rattle.reading.specs.Factor.{factor_lines}
use Rattle.numbers.specs.declared.SummaryReply.{SummaryReply}
use Rattle.summary.specs.Summary.{summary_lines}
use Rattle.numbers.specs.Numbers.{empty_reply}
use Rattle.extension.specs.declared.Extension.{Extension}
use Rattle.demands.specs.Calls.{Calls}

-- a result where no line is met, and otherwise the number of the first that is: one of those that paper 01 gives the call, and never 0
pub record Answers (numbers : List ℕ) (lines : List Line) (said : Checked) : Type 0 where
  pub first : said ≡ tried lines
  pub listed : (e : ℕ) → said ≡ Refused e → Memᴰ e numbers
  pub positive : (e : ℕ) → said ≡ Refused e → 0 < e

-- where calls take records in: the lines at their door, the numbers of these, and the most bytes of a record that they let in
pub record Doorway : Type 0 where
  pub door : Door
  pub numbers : List ℕ
  pub most : ℕ

-- that of the library's calls
abbrev pub record_door : Doorway
record_door = record { door = record_lines; numbers = 1 ∷ 2 ∷ []; most = most_letters }

-- of a call that takes a record w: the numbers and lines at its door, then its own
abbrev pub AnswersTo : Doorway → (w numbers : List ℕ) (own : List Line) → Checked → Type 0
AnswersTo d w numbers own said = Answers (d.numbers ++ numbers) (d.door w ++ own) said

-- "Result buffers are untouched by a refusal."
abbrev pub Untouched : Checked → List ℕ → List ℕ → Type 0
Untouched said buffer buffer' = (e : ℕ) → said ≡ Refused e → buffer' ≡ buffer

-- "Every refusal but 4 leaves the work buffer untouched too. .. after a cut refused by 4, the entries counted in line 3 are zero and later ones unchanged."
pub record UntouchedBut4 (n : ℕ) (said : Checked) (work work' : List ℕ) : Type 0 where
  pub kept : (e : ℕ) → said ≡ Refused e → ¬ (e ≡ 4) → work' ≡ work
  pub zeros : said ≡ Refused 4 → take n work' ≡ replicate n 0
  pub later : said ≡ Refused 4 → drop n work' ≡ drop n work

-- "The answer to every call, for every input": there is one
pub record Total (c : Calls) : Type 0 where
  pub test : (w work : List ℕ) → (r : Says (Option Extension)) × (work' : List ℕ) × c.Test w work r work'
  pub piece_cut : (w work pairs : List ℕ) → (r : Says ℕ) × (work' pairs' : List ℕ) × c.PieceCut w work pairs r work' pairs'
  pub reasoned_cut : (w work pairs breaks : List ℕ) → (r : Says (ℕ × ℕ)) × (work' pairs' breaks' : List ℕ)
      × c.ReasonedCut w work pairs breaks r work' pairs' breaks'
  pub card : (bytes es work pairs : List ℕ) → (r : ℕ × List (Says ℕ)) × (work' pairs' : List ℕ) × c.CardCut bytes es work pairs r work' pairs'
  pub strict_cut : (w ends : List ℕ) → (r : Says ℕ) × (ends' : List ℕ) × c.StrictCut w ends r ends'
  pub start_table : (w out : List ℕ) → (r : Says ℕ) × (out' : List ℕ) × c.StartTable w out r out'
  pub repetitions : (w out : List ℕ) → (r : Says ℕ) × (out' : List ℕ) × c.Repetitions w out r out'
  pub comparison : (w : List ℕ) (first end start other : ℕ) → (r : Says (ℤ × ℕ)) × c.Comparing w first end start other r
  pub reader : (w ps : List ℕ) (k : ℕ) → (part : List ℕ) × (number : ℕ) × c.Reading w ps k part number
  pub summary : (w ps : List ℕ) → (r : SummaryReply) × c.Summing w ps r

-- the comparison, the reader and the summary write to no buffer
pub record Demand1 (d : Doorway) (c : Calls) : Type 0 where
  pub answered : Total c
  pub test : (w work work' : List ℕ) (r : Says (Option Extension)) → c.Test w work r work'
      → AnswersTo d w (3 ∷ 9 ∷ []) (extension_lines w (length work)) (checked r) × Untouched (checked r) work work'
  pub piece_cut : (w work pairs work' pairs' : List ℕ) (r : Says ℕ) → c.PieceCut w work pairs r work' pairs'
      → AnswersTo d w (3 ∷ 4 ∷ []) (icfl_lines w (length work) (length pairs)) (checked r) × Untouched (checked r) pairs pairs'
      × UntouchedBut4 (3 * length w) (checked r) work work'
  -- request 102: the same with breaks beside the pairs
  pub reasoned_cut : (w work pairs breaks work' pairs' breaks' : List ℕ) (r : Says (ℕ × ℕ)) → c.ReasonedCut w work pairs breaks r work' pairs' breaks'
      → AnswersTo d w (3 ∷ 4 ∷ []) (breaks_lines w (length work) (length pairs) (length breaks)) (checked r) × Untouched (checked r) pairs pairs'
      × Untouched (checked r) breaks breaks' × UntouchedBut4 (3 * length w) (checked r) work work'
  -- request 105: 10 for the card, "checked before any record"; "With refusal 10 all of them" hold a result of 0
  pub card : (bytes es work pairs work' pairs' : List ℕ) (r : ℕ × List (Says ℕ)) → c.CardCut bytes es work pairs r work' pairs'
      → Answers (10 ∷ []) (batch_lines es (length bytes)) (numbered r.0) × Untouched (numbered r.0) pairs pairs'
      × Untouched (numbered r.0) work work' × ((e : ℕ) → numbered r.0 ≡ Refused e → r.1 ≡ places_of [])
  pub strict_cut : (w ends ends' : List ℕ) (r : Says ℕ) → c.StrictCut w ends r ends'
      → AnswersTo d w (4 ∷ []) (cfl_in_lines w (length ends)) (checked r) × Untouched (checked r) ends ends'
  pub start_table : (w out out' : List ℕ) (r : Says ℕ) → c.StartTable w out r out'
      → AnswersTo d w (4 ∷ []) (table_lines w (length out)) (checked r) × Untouched (checked r) out out'
  -- request 107: "no work buffer is lent, and a short list buffer gets 4"
  pub repetitions : (w out out' : List ℕ) (r : Says ℕ) → c.Repetitions w out r out'
      → AnswersTo d w (4 ∷ []) (runs_lines w (length out)) (checked r) × Untouched (checked r) out out'
  pub comparison : (w : List ℕ) (first end start other : ℕ) (r : Says (ℤ × ℕ)) → c.Comparing w first end start other r
      → AnswersTo d w (5 ∷ 6 ∷ []) (compare_lines (length w) first end start other) (checked r)
  -- "the part with a refusal is empty"
  pub reader : (w ps : List ℕ) (k : ℕ) (part : List ℕ) (number : ℕ) → c.Reading w ps k part number
      → AnswersTo d w (7 ∷ 8 ∷ []) (factor_lines w ps k) (numbered number) × ((e : ℕ) → numbered number ≡ Refused e → part ≡ [])
  -- "Where other numbers must stand beside it, as the summary's, they are 0."
  pub summary : (w ps : List ℕ) (r : SummaryReply) → c.Summing w ps r
      → AnswersTo d w (7 ∷ []) (summary_lines w ps) (numbered r.refusal) × ((e : ℕ) → numbered r.refusal ≡ Refused e → r ≡ empty_reply e)
