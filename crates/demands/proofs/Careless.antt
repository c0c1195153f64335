-- THEOREMS about paper 01's careless cutters, in its order: the demand that shuts each of them out.
use Rattle.std.specs.Prelude.{◌≡◌, refl, List, [], ◌∷◌, ◌++◌, ℕ, suc, ◌+◌, ◌*◌, ◌≤◌, ◌<◌, length, take, get_or, replicate}
use Rattle.std.proofs.Common.{ap, sym, ◌∙◌, arith, take_at, le-ltb}
use Rattle.std.proofs.lemmas.List.{length-replicate}
use Rattle.words.specs.Words.{most_letters}
use Rattle.words.specs.Factorizations.{prefix_length}
use Rattle.words.specs.Separated.{separated_icfl_ends, separated_cfl_in_ends}
use Rattle.words.specs.Pairs.{pairs_from, separated_pairs, ends_of}
use Rattle.words.specs.Examples.{a, b, c}
use Rattle.theory.specs.Stretches.RecordPairs.{pairs-ends-from, pairs-number}
use Rattle.theory.proofs.Stretches.RecordPairs.{pairs-entries, pairs-ends}
use Rattle.buffers.specs.Buffers.{cleared, written}
use Rattle.checks.specs.Lines.{Line, tried, ◌unless◌then◌, work_line, result_line, Passed}
use Rattle.checks.specs.Answers.{Filled, Says, gives, refuses}
use Rattle.checks.proofs.LineLaws.{not-both, all_pass, both-pass}
use Rattle.icfl.specs.Icfl.{work_after}
use Rattle.demands.specs.Demand1.{record_door, Demand1}
use Rattle.demands.specs.Demand2.{Demand2}
use Rattle.demands.specs.Meets.{record-door}
use Rattle.demands.specs.OneCall.{Cut, cutter}

-- ---- cutters that are right but for the pairs, which are f w

abbrev pub lines_at : (List ℕ → List ℕ) → List ℕ → ℕ → ℕ → List Line
lines_at f w work entries = record_door.door w ++ work_line work (3 * length w) ∷ result_line entries (length (f w)) ∷ []

pub record CutsAt (f : List ℕ → List ℕ) (w work pairs : List ℕ) (r : Says ℕ) (work' pairs' : List ℕ) : Type 0 where
  pub filled : Filled (lines_at f w (length work) (length pairs)) (length (ends_of (f w))) (f w) pairs r pairs'
  pub worked : work' ≡ cleared (3 * length w) work unless lines_at f w (length work) (length pairs) then work_after (3 * length w) work

-- demand 2 shuts out every one whose pairs are not the factorization's
pub other-pairs : (f : List ℕ → List ℕ) (w : List ℕ) → 1 ≤ length w → length w ≤ most_letters → length (f w) ≡ 2 * length (ends_of (f w))
    → ¬ (f w ≡ separated_pairs w)
    → ¬ Demand2 (cutter (CutsAt f)) w
other-pairs f w s l even n d =
    let work : List ℕ = replicate (3 * length w) 0 in
    let pairs : List ℕ = replicate (length (f w)) 0 in
    let size-work : length work ≡ 3 * length w = length-replicate (3 * length w) 0 in
    let size : length pairs ≡ length (f w) = length-replicate (length (f w)) 0 in
    let own : List Line = work_line (length work) (3 * length w) ∷ result_line (length pairs) (length (f w)) ∷ [] in
    let none : tried (lines_at f w (length work) (length pairs)) ≡ Passed = both-pass (record_door.door w) own (record-door.lets-in w s l) (all_pass own
    (le-ltb (length work) (3 * length w) (omega (arith, size-work)), (le-ltb (length pairs) (length (f w)) (omega (arith, size)), search))) in
    let cut : CutsAt f w work pairs (gives (length (ends_of (f w)))) (cleared (3 * length w) work) (written (f w) pairs) =
    record { filled = record { answer = rw none refl; result = rw none refl }; worked = rw none refl } in
    let gave = d.pieces work pairs _ _ _ cut refl in
    let same : length (separated_icfl_ends w) ≡ length (ends_of (f w)) = sym cc in
    let size-own : length (separated_pairs w) ≡ 2 * length (ends_of (f w)) = pairs-entries w ∙ ap (λ (k : ℕ). 2 * k) same in
    n (sym (take_at (f w) _ _ even) ∙ (ap (take (2 * length (ends_of (f w)))) gave.entries ∙ take_at (separated_pairs w) _ _ size-own))

-- those whose ends are f w, with the right counts beside them
abbrev pub counted_at : (List ℕ → List ℕ) → List ℕ → List ℕ
counted_at f w = pairs_from 0 (f w) (separated_cfl_in_ends w)

pub other-ends : (f : List ℕ → List ℕ) (w : List ℕ) → 1 ≤ length w → length w ≤ most_letters → ¬ (f w ≡ separated_icfl_ends w)
    → ¬ Demand2 (cutter (CutsAt (counted_at f))) w
other-ends f w s l n =
    let ends : ends_of (counted_at f w) ≡ f w = pairs-ends-from 0 (f w) (separated_cfl_in_ends w) in
    other-pairs (counted_at f) w s l (pairs-number 0 (f w) (separated_cfl_in_ends w) ∙ rw ends refl) (λ e. n (sym ends ∙ (ap ends_of e ∙ pairs-ends w)))

-- 1. "A cutter that gives the whole record as one piece"
pub whole-record : ¬ Demand2 (cutter (CutsAt (counted_at (λ w. length w ∷ [])))) (a ∷ b ∷ [])
unfolding separated_icfl_ends
whole-record = other-ends (λ w. length w ∷ []) (a ∷ b ∷ []) (omega arith) (omega arith)
    (λ e. let z : ◌≡◌ {A = ℕ} 2 1 = ap (λ (t : List ℕ). get_or t 0 0) e in omega arith)

-- 2. "or every byte": ends 1, 2, .. after i letters
abbrev count_up : ℕ → List ℕ → List ℕ
count_up i [] = []
count_up i (x ∷ w) = suc i ∷ count_up (suc i) w

pub every_byte : ¬ Demand2 (cutter (CutsAt (counted_at (count_up 0)))) (b ∷ a ∷ [])
unfolding separated_icfl_ends
every_byte = other-ends (count_up 0) (b ∷ a ∷ []) (omega arith) (omega arith)
    (λ e. let z : ◌≡◌ {A = ℕ} 1 2 = ap (λ (t : List ℕ). get_or t 0 0) e in omega arith)

-- 3. "One that finds the first p rightly and makes the rest one piece"
pub first-p-only : ¬ Demand2 (cutter (CutsAt (counted_at (λ w. prefix_length w ∷ length w ∷ [])))) (a ∷ b ∷ c ∷ [])
unfolding separated_icfl_ends prefix_length
first-p-only = other-ends (λ w. prefix_length w ∷ length w ∷ []) (a ∷ b ∷ c ∷ []) (omega arith) (omega arith)
    (λ e. let z : ◌≡◌ {A = ℕ} 3 2 = ap (λ (t : List ℕ). get_or t 1 0) e in omega arith)

-- ---- other cutters, which leave the work buffer alone; only the answer and the pairs are looked at

abbrev pub Answering : ((w : List ℕ) (work entries : ℕ) → Says ℕ) → (List ℕ → List ℕ → List ℕ) → Cut
Answering answer after w work pairs r work' pairs' = (r ≡ answer w (length work) (length pairs)) × (pairs' ≡ after w pairs) × (work' ≡ work)

-- 4. "One that leaves the buffer alone and reports ends"
pub buffer-left-alone : ¬ Demand2 (cutter (Answering (λ w work entries. gives (length (separated_icfl_ends w))) (λ w pairs. pairs))) (a ∷ [])
unfolding separated_icfl_ends separated_pairs
buffer-left-alone d =
    let gave = d.pieces [] (0 ∷ 0 ∷ []) [] (0 ∷ 0 ∷ []) (gives 1) (refl, refl, refl) refl in
    let z : ◌≡◌ {A = ℕ} 0 1 = ap (λ (t : List ℕ). get_or t 0 0) gave.entries in
    omega arith

-- 5. 'One that says "no space" before counting': 4 where the buffer has fewer entries than the record has letters
pub no-space : ¬ Demand1 record_door (cutter (Answering
    (λ w work entries. gives (length (separated_icfl_ends w))
    unless record_door.door w ++ work_line work (3 * length w) ∷ result_line entries (2 * length w) ∷ [] then refuses)
    (λ w pairs. pairs)))
unfolding tried separated_icfl_ends
no-space d = not-both refl (d.piece_cut (b ∷ a ∷ []) (replicate 6 0) (0 ∷ 0 ∷ []) _ _ (refuses 4) (refl, refl, refl)).0.first

-- 6. "or refuses all"
pub refuses-all : ¬ Demand1 record_door (cutter (Answering (λ w work entries. refuses 3) (λ w pairs. pairs)))
unfolding tried separated_icfl_ends
refuses-all d = not-both refl (d.piece_cut (a ∷ []) (replicate 3 0) (0 ∷ 0 ∷ []) _ _ (refuses 3) (refl, refl, refl)).0.first

-- 7. "One that invents the number of pieces"
pub invented-count : ¬ Demand2 (cutter (Answering (λ w work entries. gives (length w + 1)) (λ w pairs. written (separated_pairs w) pairs))) (a ∷ [])
unfolding separated_icfl_ends separated_pairs
invented-count d =
    let gave = d.pieces [] (0 ∷ 0 ∷ []) [] (1 ∷ 1 ∷ []) (gives 2) (refl, refl, refl) refl in
    let z : ◌≡◌ {A = ℕ} 2 1 = cc in
    omega arith

-- and one whose refusal carries 0, so that it would pass for a result
pub refused-by-0 : ¬ Demand1 record_door (cutter (Answering (λ w work entries. refuses 0) (λ w pairs. pairs)))
refused-by-0 d =
    let z : 0 < 0 = (d.piece_cut [] [] [] [] [] (refuses 0) (refl, refl, refl)).0.positive 0 refl in
    omega arith
