-- Doorways that let in just the records of 1 to so many bytes (Sound), and calls whose answers meet the promises of the calls behind a door (Meets). The
-- record's lines are such a doorway (record-door), and the calls behind a door are such calls (behind-meets) and answer (behind-total); the exported
-- functions: ExportedMeets.
use Rattle.std.specs.Prelude.{◌≡◌, refl, true, List, ◌++◌, ℕ, ◌≤◌, length, ltb, ℤ, Option}
use Rattle.std.proofs.Common.{ap, ◌∙◌}
use Rattle.words.specs.Pairs.{ends_of}
use Rattle.checks.specs.Lines.{Line, ◌unless◌then◌, Door, tried, Accepted, Passed}
use Rattle.checks.specs.Answers.{Says, gives, refuses}
use Rattle.checks.proofs.LineLaws.{every_number, among, reading}
use Rattle.checks.proofs.RecordLaws.{accepted, record-passes}
use Rattle.icfl.proofs.IcflCases.{NoFour}
use Rattle.numbers.specs.declared.SummaryReply.{SummaryReply}
use Rattle.summary.specs.Summary.{summary_of, summary_lines, Summarized}
use Rattle.numbers.specs.Numbers.{summary_numbers, summary_reply, empty_reply}
use Rattle.exports.specs.Exports.{Gives}
use Rattle.extension.specs.declared.Extension.{Extension}
use Rattle.demands.specs.Calls.{Calls, behind}
use Rattle.demands.specs.Demand1.{Doorway, record_door, Total}

-- ---- doorways

pub record Sound (d : Doorway) : Type 0 where
  -- the numbers of its lines are listed, and none of them is 0 or 4
  pub listed : (w : List ℕ) → every_number (among d.numbers) (d.door w) ≡ true
  pub positive : (w : List ℕ) → every_number (ltb 0) (d.door w) ≡ true
  pub no-four : (w : List ℕ) → NoFour (d.door w)
  -- which records pass
  pub lets-in : (w : List ℕ) → 1 ≤ length w → length w ≤ d.most → tried (d.door w) ≡ Passed
  pub accepts : (w : List ℕ) → tried (d.door w) ≡ Passed → Accepted w
  pub few : (w : List ℕ) → tried (d.door w) ≡ Passed → length w ≤ d.most

pub record-door : Sound record_door
record-door = record {
  listed = λ w. refl;
  positive = λ w. refl;
  no-four = λ w. refl;
  lets-in = λ w s l. record-passes w (record { nonempty = s; short = l });
  accepts = accepted;
  few = λ w p. (accepted w p).short;
}

-- ---- calls

-- every answer of the one calls may be given by the others
pub record Within (c calls : Calls) : Type 0 where
  pub test : (w work : List ℕ) (r : Says (Option Extension)) (work' : List ℕ) → c.Test w work r work' → calls.Test w work r work'
  pub piece_cut : (w work pairs : List ℕ) (r : Says ℕ) (work' pairs' : List ℕ) → c.PieceCut w work pairs r work' pairs'
      → calls.PieceCut w work pairs r work' pairs'
  pub reasoned_cut : (w work pairs breaks : List ℕ) (r : Says (ℕ × ℕ)) (work' pairs' breaks' : List ℕ)
      → c.ReasonedCut w work pairs breaks r work' pairs' breaks'
      → calls.ReasonedCut w work pairs breaks r work' pairs' breaks'
  pub card : (bytes es work pairs : List ℕ) (r : ℕ × List (Says ℕ)) (work' pairs' : List ℕ) → c.CardCut bytes es work pairs r work' pairs'
      → calls.CardCut bytes es work pairs r work' pairs'
  pub strict_cut : (w ends : List ℕ) (r : Says ℕ) (ends' : List ℕ) → c.StrictCut w ends r ends' → calls.StrictCut w ends r ends'
  pub start_table : (w out : List ℕ) (r : Says ℕ) (out' : List ℕ) → c.StartTable w out r out' → calls.StartTable w out r out'
  pub repetitions : (w out : List ℕ) (r : Says ℕ) (out' : List ℕ) → c.Repetitions w out r out' → calls.Repetitions w out r out'
  pub comparison : (w : List ℕ) (first end start other : ℕ) (r : Says (ℤ × ℕ)) → c.Comparing w first end start other r
      → calls.Comparing w first end start other r
  pub reader : (w ps : List ℕ) (k : ℕ) (part : List ℕ) (number : ℕ) → c.Reading w ps k part number → calls.Reading w ps k part number
  pub summary : (w ps : List ℕ) (r : SummaryReply) → c.Summing w ps r → calls.Summing w ps r

abbrev pub Meets : Door → Calls → Type 0
Meets door c = Within c (behind door)

-- ---- the calls behind a door, of which the library's are one

pub behind-meets : (door : Door) → Meets door (behind door)
behind-meets door = record {
  test = λ w work r work' h. h;
  piece_cut = λ w work pairs r work' pairs' h. h;
  reasoned_cut = λ w work pairs breaks r work' pairs' breaks' h. h;
  card = λ bytes es work pairs r work' pairs' h. h;
  strict_cut = λ w ends r ends' h. h;
  start_table = λ w out r out' h. h;
  repetitions = λ w out r out' h. h;
  comparison = λ w first end start other r h. h;
  reader = λ w ps k part number h. h;
  summary = λ w ps r h. h;
}

pub behind-total : (door : Door) → Total (behind door)
behind-total door = record {
  test = λ w work. (_, _, record { answer = refl; buffer = refl });
  piece_cut = λ w work pairs. (_, _, _, record { answer = refl; result = refl; worked = refl });
  reasoned_cut = λ w work pairs breaks. (_, _, _, _, record { answer = refl; pairs-are = refl; breaks-are = refl; worked = refl });
  card = λ bytes es work pairs. (_, _, _, record { answer = refl; result = refl; worked = refl });
  strict_cut = λ w ends. (_, _, record { answer = refl; result = refl });
  start_table = λ w out. (_, _, record { answer = refl; result = refl });
  repetitions = λ w out. (_, _, record { answer = refl; result = refl });
  comparison = λ w first end start other. (_, record { answer = refl });
  reader = λ w ps k. (_, _, record { number_is = refl; part-is = refl });
  summary = λ w ps. (_, (_, record { answer = refl }, refl));
}

-- the summary's numbers, by its lines: those of a result, or those of a refusal
pub summary-numbered : (lines : List Line) (es : List ℕ)
    → summary_numbers (gives (summary_of es) unless lines then refuses) ≡ summary_reply es unless lines then empty_reply
summary-numbered lines es = reading summary_numbers (gives (summary_of es)) (λ (i : ℕ). refuses i) (tried lines)

pub summary-told : {door : List Line} {w ps : List ℕ} {r : SummaryReply} → Gives summary_numbers r (Summarized door w ps)
    → r ≡ summary_reply (ends_of ps) unless door ++ summary_lines w ps then empty_reply
summary-told {door} {w} {ps} g = g.2 ∙ ap summary_numbers g.1.answer ∙ summary-numbered (door ++ summary_lines w ps) (ends_of ps)
