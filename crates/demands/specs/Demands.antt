-- DEFINITIONS. The customer's three demands, stated once about any calls and the doorway through which they take records in. The library's calls are such, and
-- so are the exported functions: that the demands hold of both are the theorems library-demands and exported-demands (DemandsHold). Each field carries the
-- customer's sentence, in Demand1, Demand2, Demand3 and Requests. That every call ends, and without undefined behaviour, is what the proof of its function
-- says. What meets them gives the library's answers and leaves the lent buffers as the library does: library-only (DemandsSuffice).
use Rattle.std.specs.Prelude.{◌≡◌, List, ℕ, ◌≤◌, length, ℤ}
use Rattle.words.specs.Separated.{UpToSeparator}
use Rattle.words.specs.Pairs.{ends_of}
use Rattle.checks.specs.Lines.{Passed}
use Rattle.checks.specs.Answers.{numbered, checked, Says}
use Rattle.numbers.specs.declared.SummaryReply.{SummaryReply}
use Rattle.demands.specs.Calls.{Calls}
use Rattle.demands.specs.Demand1.{Doorway, Demand1}
use Rattle.demands.specs.Demand2.{Demand2}
use Rattle.demands.specs.Demand3.{Demand3, Given}
use Rattle.demands.specs.Requests.{PartRead, SummedUp, CardAnswered, RepetitionsListed}

-- all three; for every record there is what the third speaks of; what is read and summed up of a paired list; the card's answers; and the repetitions
pub record Demands (d : Doorway) (c : Calls) : Type 0 where
  pub first : Demand1 d c
  pub second : (w : List ℕ) → 1 ≤ length w → length w ≤ d.most → Demand2 c w
  pub third : (w es ss : List ℕ) (compare : ℕ → ℕ → ℕ → ℕ → Says (ℤ × ℕ)) → Given d.most c w es ss compare → Demand3 w es ss compare
  pub given : (w : List ℕ) → 1 ≤ length w → length w ≤ d.most → UpToSeparator w
      → (es ss : List ℕ) × (compare : ℕ → ℕ → ℕ → ℕ → Says (ℤ × ℕ)) × Given d.most c w es ss compare
  pub reader : (w ps : List ℕ) (k : ℕ) (part : List ℕ) (number : ℕ) → c.Reading w ps k part number → numbered number ≡ Passed → PartRead w (ends_of ps) k part
  pub summary : (w ps : List ℕ) (r : SummaryReply) → c.Summing w ps r → numbered r.refusal ≡ Passed → SummedUp (ends_of ps) r
  pub card : (bytes es work pairs work' pairs' : List ℕ) (r : ℕ × List (Says ℕ)) → c.CardCut bytes es work pairs r work' pairs' → numbered r.0 ≡ Passed
      → CardAnswered c bytes es work pairs r work' pairs'
  pub repetitions : (w out out' : List ℕ) (r : Says ℕ) → c.Repetitions w out r out' → checked r ≡ Passed → RepetitionsListed w out r out'
