-- THEOREMS about readers and summaries that are careless of what they give: the demand that shuts each of them out.
use Rattle.std.specs.Prelude.{◌≡◌, refl, true, false, List, [], ◌∷◌, ◌++◌, ℕ, ◌-◌, length, take, get_or, replicate, eqb}
use Rattle.std.proofs.Common.{ap, arith}
use Rattle.std.proofs.Math.Seq.{slice}
use Rattle.words.specs.Pairs.{ends_of}
use Rattle.words.specs.Examples.{a, b}
use Rattle.theory.specs.Statements.{here, there}
use Rattle.pairs.specs.PairedList.{are_faulty_pairs, factor_begin}
use Rattle.checks.specs.Lines.{tried, ◌unless◌then◌}
use Rattle.checks.specs.Answers.{checked_number}
use Rattle.reading.specs.Factor.{factor_lines}
use Rattle.numbers.specs.declared.SummaryReply.{SummaryReply}
use Rattle.summary.specs.Summary.{summary_lines, lengths_from, greatest, bands_of, summary_of}
use Rattle.numbers.specs.Numbers.{empty_reply, summary_reply}
use Rattle.demands.specs.Demand1.{record_door, Demand1}
use Rattle.demands.specs.Demands.{Demands}
use Rattle.demands.specs.OneCall.{Reader, Summing, reader, summer}

-- ---- readers with the right number, and f for a result, g beside a refusal

abbrev Hands : (f : List ℕ → List ℕ → ℕ → List ℕ) (g : List ℕ → List ℕ) → Reader
Hands f g w ps k part number =
    (number ≡ checked_number (tried (record_door.door w ++ factor_lines w ps k)))
    × (part ≡ f w (ends_of ps) k unless record_door.door w ++ factor_lines w ps k then (λ e. g w))

-- "the part with a refusal is empty": one that hands back the record
pub record-beside-refusal : ¬ Demand1 record_door (reader (Hands (λ w es k. slice (factor_begin es k) (get_or es k 0) w) (λ w. w)))
unfolding tried are_faulty_pairs ends_of
record-beside-refusal d =
    let z : ◌≡◌ {A = ℕ} 1 0 = ap (λ (t : List ℕ). length t) ((d.reader (a ∷ []) [] 0 (a ∷ []) 7 (refl, refl)).1 7 refl) in
    omega arith

-- "that part of the record": one that reads from the record's start, and so only the first part rightly
pub read-from-0 : ¬ Demands record_door (reader (Hands (λ w es k. take (get_or es k 0) w) (λ w. [])))
unfolding tried are_faulty_pairs ends_of
read-from-0 d =
    let read = d.reader (a ∷ b ∷ []) (1 ∷ 1 ∷ 2 ∷ 1 ∷ []) 1 (a ∷ b ∷ []) 0 (refl, refl) refl in
    let z : ◌≡◌ {A = ℕ} 2 1 = ap (λ (t : List ℕ). length t) read.part-is in
    omega arith

-- ---- summaries that are f of the ends, and g beside a refusal

abbrev Tells : (f : List ℕ → SummaryReply) (g : ℕ → SummaryReply) → Summing
Tells f g w ps r = r ≡ f (ends_of ps) unless record_door.door w ++ summary_lines w ps then g

-- "Where other numbers must stand beside it, as the summary's, they are 0."
pub count-beside-refusal : ¬ Demand1 record_door (summer (Tells summary_reply
    (λ e. record { refusal = e; count = 1; longest = 0; from = 0; bands = replicate 13 0 })))
unfolding tried
count-beside-refusal d =
    let z : ◌≡◌ {A = ℕ} 1 0 = ap (λ (s : SummaryReply). s.count) ((d.summary [] [] _ refl).1 1 refl) in
    omega arith

-- "The summary shall name the latest of the longest pieces": one that names the earliest, as paper 01 had it
unfoldable pub earliest_of : ℕ → ℕ → List ℕ → ℕ
earliest_of n a [] = 0
earliest_of n a (e ∷ es) = elim (eqb (e - a) n) [ true ↦ a | false ↦ earliest_of n e es ]

pub earliest-named : ¬ Demands record_door (summer (Tells (λ es. let longest = greatest (lengths_from 0 es) in
    record { refusal = 0; count = length es; longest = longest; from = earliest_of longest 0 es; bands = bands_of es }) empty_reply))
unfolding tried are_faulty_pairs ends_of lengths_from greatest earliest_of
earliest-named d =
    let told = d.summary (a ∷ b ∷ []) (1 ∷ 1 ∷ 2 ∷ 1 ∷ []) _ refl refl in
    told.longest.latest 1 2 (there here) (omega arith) refl

-- "the number of binary digits": one whose bands lie one too high
pub bands-too-high : ¬ Demands record_door (summer (Tells (λ es. let right = summary_of es in
    record { refusal = 0; count = right.count; longest = right.longest; from = right.from; bands = 0 ∷ take 12 right.bands }) empty_reply))
unfolding tried are_faulty_pairs ends_of summary_of bands_of
bands-too-high d =
    let told = d.summary (a ∷ []) (1 ∷ 1 ∷ []) _ refl refl in
    let z : ◌≡◌ {A = ℕ} 0 1 = ap (λ (t : List ℕ). get_or t 0 0) told.bands in
    omega arith

-- "The answer to every call, for every input": one that gives none
pub never-answers : ¬ Demand1 record_door (summer (λ w ps r. ⊥))
never-answers d = (d.answered.summary [] []).1
