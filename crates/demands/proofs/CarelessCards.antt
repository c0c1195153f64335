-- THEOREMS about calls that are careless of cards (request 105): the demand that shuts each of them out.
use Rattle.std.proofs.Math.Path.{◌≡◌, refl, ap, sym}
use Rattle.std.proofs.Common.{◌∙◌}
use mathlib.Core.List.{List, [], ◌∷◌, ◌++◌}
use Prim.Native.Nat.{ℕ}
use native.Mathlib.Omega.{arith}
use Rattle.std.specs.Prelude.{get_or, replicate}
use Rattle.words.specs.Examples.{a}
use Rattle.words.specs.Separated.{separated_icfl_ends}
use Rattle.conditions.specs.Conditions.{are_faulty_record_ends}
use Rattle.checks.specs.Lines.{tried}
use Rattle.checks.specs.Answers.{numbered, Says, gives, refuses}
use Rattle.checks.proofs.LineLaws.{not-both}
use Rattle.batch.specs.Batch.{used_entries, records_from, cut_record, cut_records, batch_of, places_of, batch_with}
use Rattle.demands.specs.Calls.{Calls}
use Rattle.demands.specs.Demand1.{record_door, Demand1}
use Rattle.demands.specs.Requests.{Singly, none, next}
use Rattle.demands.specs.Demands.{Demands}
use Rattle.demands.specs.OneCall.{Card, card_cutter}

-- right buffers, and f of the right answers, whatever the list of record ends is
abbrev Answering : (List (Says ℕ) → List (Says ℕ)) → Card
Answering f bytes es work pairs r work' pairs' =
    (r ≡ batch_with 0 (f (batch_of record_door.door bytes es work pairs).answers))
    × (work' ≡ (batch_of record_door.door bytes es work pairs).work) × (pairs' ≡ (batch_of record_door.door bytes es work pairs).pairs)

-- one that refuses no list: an empty one is cut as a card without records
pub refuses-none : ¬ Demand1 record_door (card_cutter (Answering (λ answers. answers)))
unfolding tried are_faulty_record_ends records_from cut_records
refuses-none d = not-both refl (sym (d.card [] [] [] [] _ _ (batch_with 0 []) (refl, refl, refl)).0.first)

-- ---- other answers for the records: of two, an empty one and a, the second has one factor

module _ (f : List (Says ℕ) → List (Says ℕ)) where
  abbrev answering : Calls
  answering = card_cutter (Answering f)

  second : (answers : List (Says ℕ)) (work' pairs' : List ℕ) → Singly answering ([] ∷ (a ∷ []) ∷ []) (replicate 3 0) (0 ∷ 0 ∷ []) answers work' pairs'
      → get_or (places_of answers) 1 (gives 0) ≡ gives 1
  unfolding tried separated_icfl_ends
  second answers work' pairs' (next d (next e none)) =
      e.answer ∙ rw (d.worked, d.result, d.answer) refl

  -- a card that says a refusal in its second place
  other-second : (r : ℕ × List (Says ℕ)) {work' pairs' : List ℕ} → answering.CardCut (a ∷ []) (0 ∷ 1 ∷ []) (replicate 3 0) (0 ∷ 0 ∷ []) r work' pairs'
      → used_entries (get_or (r.1) 1 (gives 0)) ≡ 0 → ¬ Demands record_door answering
  unfolding records_from
  other-second r h e d =
      let card = d.card (a ∷ []) (0 ∷ 1 ∷ []) (replicate 3 0) (0 ∷ 0 ∷ []) _ _ r h (ap (λ (b : ℕ × List (Says ℕ)). numbered b.0) h.0) in
      let used : List (Says ℕ) → ℕ = λ places. used_entries (get_or places 1 (gives 0)) in
      let z : ◌≡◌ {A = ℕ} 0 2 = sym e ∙ ap used card.places ∙ ap used_entries (second card.answers _ _ card.singly) in
      omega arith

-- one that stops at the first refusal
unfoldable pub until_refused : List (Says ℕ) → List (Says ℕ)
until_refused [] = []
until_refused (gives n ∷ answers) = gives n ∷ until_refused answers
until_refused (refuses number ∷ answers) = refuses number ∷ []

pub stops-at-refusal : ¬ Demands record_door (card_cutter (Answering until_refused))
unfolding tried records_from cut_record cut_records separated_icfl_ends until_refused
stops-at-refusal =
    other-second until_refused (0, refuses 1 ∷ replicate 63 (gives 0)) (refl, refl, refl) refl

-- one whose answers come against the card's order, the last record's first
unfoldable pub turned : List (Says ℕ) → List (Says ℕ)
turned [] = []
turned (s ∷ answers) = turned answers ++ s ∷ []

pub last-answer-first : ¬ Demands record_door (card_cutter (Answering turned))
unfolding tried records_from cut_record cut_records separated_icfl_ends turned
last-answer-first =
    other-second turned (0, gives 1 ∷ refuses 1 ∷ replicate 62 (gives 0)) (refl, refl, refl) refl
