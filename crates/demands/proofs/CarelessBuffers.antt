-- THEOREMS about calls that are careless of the lent buffers where they give a result: demand 2 shuts each of them out.
use Rattle.std.specs.Prelude.{◌≡◌, refl, ℕ, ◌-◌, ◌*◌, length, get_or, replicate, None}
use Rattle.std.proofs.Common.{ap, arith}
use mathlib.Core.List.{List, [], ◌∷◌, ◌++◌, flatten}
use Rattle.words.specs.Words.{is_inverse_lyndon}
use Rattle.words.specs.Separated.{has_mark, separated_icfl_ends, separated_breaks}
use Rattle.words.specs.Pairs.{separated_pairs}
use Rattle.words.specs.Examples.{a}
use Rattle.buffers.specs.Buffers.{cleared, written}
use Rattle.checks.specs.Answers.{gives, refuses}
use Rattle.checks.specs.Lines.{tried, ◌unless◌then◌}
use Rattle.extension.specs.Extension.{verdict_of, extension_lines}
use Rattle.fates.specs.Entries.{entries_of_breaks}
use Rattle.icfl.specs.Icfl.{icfl_lines, icfl_answer, work_after}
use Rattle.icfl_breaks.specs.IcflBreaks.{breaks_lines}
use Rattle.demands.specs.Demand1.{record_door}
use Rattle.demands.specs.Demand2.{Demand2}
use Rattle.demands.specs.OneCall.{Test, Cut, ReasonedCut, tester, cutter, reasoner}

-- ---- piece cuts that are right but for the result buffer, which is f w pairs, or the work buffer, which is g w work

abbrev Leaves : (f g : List ℕ → List ℕ → List ℕ) → Cut
Leaves f g w work pairs r work' pairs' =
    (r ≡ icfl_answer (record_door.door w) w work pairs)
    × (pairs' ≡ f w pairs unless record_door.door w ++ icfl_lines w (length work) (length pairs) then (λ number. pairs))
    × (work' ≡ g w work unless record_door.door w ++ icfl_lines w (length work) (length pairs) then work_after (3 * length w) work)

-- "writes exactly the answer's entries": one that fills the buffer up with zeros
pub filled-up : ¬ Demand2 (cutter (Leaves
    (λ w pairs. separated_pairs w ++ replicate (length pairs - length (separated_pairs w)) 0) (λ w. cleared (3 * length w)))) (a ∷ [])
unfolding tried separated_icfl_ends separated_pairs
filled-up d =
    let gave = d.pieces (replicate 3 0) (7 ∷ 7 ∷ 7 ∷ []) _ _ (gives 1) (refl, refl, refl) refl in
    let z : ◌≡◌ {A = ℕ} 0 7 = ap (λ (t : List ℕ). get_or t 2 0) gave.entries in
    omega arith

-- "After an accepted cut .. the entries counted in line 3 are zero": one that leaves what it worked with
pub left-dirty : ¬ Demand2 (cutter (Leaves (λ w. written (separated_pairs w)) (λ w work. work))) (a ∷ [])
unfolding tried separated_icfl_ends separated_pairs
left-dirty d =
    let gave = d.pieces (replicate 3 1) (0 ∷ 0 ∷ []) _ _ (gives 1) (refl, refl, refl) refl in
    let z : ◌≡◌ {A = ℕ} 1 0 = ap (λ (t : List ℕ). get_or t 0 0) gave.zeros in
    omega arith

-- ".. and later ones unchanged": one that clears all that it is lent
pub all-cleared : ¬ Demand2 (cutter (Leaves (λ w. written (separated_pairs w)) (λ w work. replicate (length work) 0))) (a ∷ [])
unfolding tried separated_icfl_ends separated_pairs
all-cleared d =
    let gave = d.pieces (replicate 4 1) (0 ∷ 0 ∷ []) _ _ (gives 1) (refl, refl, refl) refl in
    let z : ◌≡◌ {A = ℕ} 0 1 = ap (λ (t : List ℕ). get_or t 3 0) gave.zeros in
    omega arith

-- ---- the same of a cut with breaks and of a test

abbrev Reasons : ReasonedCut
Reasons w work pairs breaks r work' pairs' breaks' =
    let lines = record_door.door w ++ breaks_lines w (length work) (length pairs) (length breaks) in
    (r ≡ gives (length (separated_icfl_ends w), length (separated_breaks w)) unless lines then refuses)
    × (pairs' ≡ written (separated_pairs w) pairs unless lines then (λ number. pairs))
    × (breaks' ≡ written (entries_of_breaks (separated_breaks w)) breaks unless lines then (λ number. breaks))
    × (work' ≡ work unless lines then work_after (3 * length w) work)

pub reasons-left-dirty : ¬ Demand2 (reasoner Reasons) (a ∷ [])
unfolding tried separated_icfl_ends separated_pairs separated_breaks flatten
reasons-left-dirty d =
    let gave = d.reasons (replicate 3 1) (0 ∷ 0 ∷ []) [] _ _ _ (gives (1, 0)) (refl, refl, refl, refl) refl in
    let z : ◌≡◌ {A = ℕ} 1 0 = ap (λ (t : List ℕ). get_or t 0 0) gave.zeros in
    omega arith

abbrev Tries : Test
Tries w work r work' = (r ≡ gives (verdict_of w) unless record_door.door w ++ extension_lines w (length work) then refuses) × (work' ≡ work)

pub test-left-dirty : ¬ Demand2 (tester Tries) (a ∷ [])
unfolding tried verdict_of is_inverse_lyndon has_mark
test-left-dirty d =
    let z : ◌≡◌ {A = ℕ} 1 0 = ap (λ (t : List ℕ). get_or t 0 0) (d.tested (1 ∷ []) (1 ∷ []) (gives None) (refl, refl) refl) in
    omega arith
