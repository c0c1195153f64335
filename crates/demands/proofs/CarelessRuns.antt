-- THEOREMS about calls that are careless of repetitions (request 107): the demand that shuts each of them out.
use Rattle.std.specs.Prelude.{◌≡◌, refl, ℕ, ◌-◌, ◌*◌, length, take, get_or, replicate}
use Rattle.std.proofs.Common.{ap, arith}
use mathlib.Core.List.{List, [], ◌∷◌, ◌++◌, flatten}
use Rattle.words.specs.Runs.{Triple, runs, separated_runs}
use Rattle.words.specs.Examples.{a, b}
use Rattle.buffers.specs.Buffers.{written}
use Rattle.checks.specs.Lines.{Line, tried, ◌unless◌then◌, result_line}
use Rattle.checks.specs.Answers.{Says, gives, Filled, refuses}
use Rattle.checks.proofs.LineLaws.{not-both}
use Rattle.inserting.specs.Entries.{entries_of_runs}
use Rattle.runs.specs.Runs.{runs_lines}
use Rattle.demands.specs.Demand1.{record_door, Demand1}
use Rattle.demands.specs.Demands.{Demands}
use Rattle.demands.specs.OneCall.{Listing, lister}
use Rattle.demands.proofs.RepetitionsHold.{count-only, entries-only}

-- ---- right repetitions

-- one that writes before it has counted: with 4, as much of the answer as there is room for
abbrev WritesFirst : Listing
WritesFirst w out r out' =
    (r ≡ gives (length (separated_runs w)) unless record_door.door w ++ runs_lines w (length out) then refuses)
    × (out' ≡ take (length out) (written (entries_of_runs (separated_runs w)) out))

pub written-before-counted : ¬ Demand1 record_door (lister WritesFirst)
unfolding tried separated_runs flatten
written-before-counted d =
    let kept = (d.repetitions (a ∷ a ∷ []) (0 ∷ 0 ∷ []) _ (refuses 4) (refl, refl)).1 4 refl in
    let z : ◌≡◌ {A = ℕ} 2 0 = ap (λ (t : List ℕ). get_or t 1 0) kept in
    omega arith

-- one that does not count: 4 where the buffer has less room than as many repetitions as there can be would fill
abbrev bound_lines : List ℕ → ℕ → List Line
bound_lines w entries = record_door.door w ++ result_line entries (3 * (length w - 1)) ∷ []

pub no-space-for-most : ¬ Demand1 record_door (lister
    (λ w out r out'. Filled (bound_lines w (length out)) (length (separated_runs w)) (entries_of_runs (separated_runs w)) out r out'))
unfolding tried separated_runs
no-space-for-most d = not-both refl (d.repetitions (a ∷ b ∷ []) [] [] (refuses 4) (record { answer = refl; result = refl })).0.first

-- ---- calls that are right but for the repetitions, which are f w

abbrev list_lines : (List ℕ → List Triple) → List ℕ → ℕ → List Line
list_lines f w entries = record_door.door w ++ result_line entries (3 * length (f w)) ∷ []

abbrev Lists : (List ℕ → List Triple) → Listing
Lists f w out r out' = Filled (list_lines f w (length out)) (length (f w)) (entries_of_runs (f w)) out r out'

-- "The period is the smallest one": one that lists `aaaa` as two times `aa`, too
pub period-doubled : (f : List ℕ → List Triple) → f (a ∷ a ∷ a ∷ a ∷ []) ≡ (0, 4, 1) ∷ (0, 4, 2) ∷ [] → ¬ Demands record_door (lister (Lists f))
unfolding tried separated_runs flatten
period-doubled f x d =
    let w : List ℕ = a ∷ a ∷ a ∷ a ∷ [] in
    let h = d.repetitions w (replicate 6 0) (0 ∷ 4 ∷ 1 ∷ 0 ∷ 4 ∷ 2 ∷ []) (gives 2) (record { answer = rw x refl; result = rw x refl }) refl in
    let z : ◌≡◌ {A = ℕ} 4 0 = ap (λ (t : List ℕ). get_or t 4 0) (entries-only h) in
    omega arith

-- "by first place and then by period": one that goes by the period first
pub by-period-first : (f : List ℕ → List Triple) → f (a ∷ a ∷ b ∷ a ∷ a ∷ b ∷ []) ≡ (0, 2, 1) ∷ (3, 5, 1) ∷ (0, 6, 3) ∷ []
    → ¬ Demands record_door (lister (Lists f))
unfolding tried separated_runs flatten
by-period-first f x d =
    let w : List ℕ = a ∷ a ∷ b ∷ a ∷ a ∷ b ∷ [] in
    let out' : List ℕ = 0 ∷ 2 ∷ 1 ∷ 3 ∷ 5 ∷ 1 ∷ 0 ∷ 6 ∷ 3 ∷ [] in
    let h = d.repetitions w (replicate 9 0) out' (gives 3) (record { answer = rw x refl; result = rw x refl }) refl in
    let z : ◌≡◌ {A = ℕ} 3 0 = ap (λ (t : List ℕ). get_or t 3 0) (entries-only h) in
    omega arith

-- "Marks belong to none": one that takes them for letters
pub marks-repeated : ¬ Demands record_door (lister (Lists runs))
unfolding tried runs separated_runs flatten
marks-repeated d =
    let h = d.repetitions (255 ∷ 255 ∷ []) (replicate 3 0) _ (gives 1) (record { answer = refl; result = refl }) refl in
    let z : ◌≡◌ {A = Says ℕ} (gives 1) (gives 0) = count-only h in
    let n : ◌≡◌ {A = ℕ} 1 0 = cc in
    omega arith
