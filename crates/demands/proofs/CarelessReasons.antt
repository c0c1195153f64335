-- THEOREMS about cuts with breaks (request 102) that are careless: the demand that shuts each of them out.
use Rattle.std.specs.Prelude.{◌≡◌, refl, ℕ, ◌*◌, ◌≤◌, length, take, get_or, replicate}
use Rattle.std.proofs.Common.{ap, sym, ◌∙◌, arith, take_at, le-ltb}
use mathlib.Core.List.{List, [], ◌∷◌, ◌++◌, flatten}
use Rattle.std.proofs.lemmas.List.{length-replicate}
use Rattle.words.specs.Words.{most_letters}
use Rattle.words.specs.Separated.{separated_icfl_ends, separated_breaks}
use Rattle.words.specs.Pairs.{separated_pairs}
use Rattle.words.specs.declared.Fate.TheVariants.{Joined}
use Rattle.words.specs.declared.Break.{Break}
use Rattle.words.specs.Examples.{a, b}
use Rattle.buffers.specs.Buffers.{cleared, written}
use Rattle.checks.specs.Lines.{Line, tried, ◌unless◌then◌, result_line, Passed}
use Rattle.checks.specs.Answers.{Says, values_or, refuses, gives}
use Rattle.checks.proofs.LineLaws.{all_pass, both-pass}
use Rattle.fates.specs.Entries.{entries_of_breaks}
use Rattle.fates.proofs.EntryLaws.{length-entries}
use Rattle.icfl.specs.Icfl.{icfl_lines, work_after}
use Rattle.demands.specs.Demand1.{record_door, Demand1}
use Rattle.demands.specs.Demand2.{Demand2}
use Rattle.demands.specs.Meets.{record-door}
use Rattle.demands.specs.OneCall.{reasoner}

-- ---- cuts with breaks that are right but for the breaks, which are f w, or for the lines under which the ends are written

abbrev reasoned_lines : (List ℕ → List Break) → List ℕ → (work pairs breaks : ℕ) → List Line
reasoned_lines f w work pairs breaks = record_door.door w ++ icfl_lines w work pairs ++ result_line breaks (5 * length (f w)) ∷ []

pub record ReasonsBy (f : List ℕ → List Break) (end_lines : List ℕ → (work pairs breaks : ℕ) → List Line) (w work pairs breaks : List ℕ) (r : Says (ℕ × ℕ))
    (work' pairs' breaks' : List ℕ) : Type 0 where
  pub answer : r ≡ gives (length (separated_icfl_ends w), length (f w)) unless reasoned_lines f w (length work) (length pairs) (length breaks)
      then refuses
  pub pairs-are : pairs' ≡ written (separated_pairs w) pairs unless end_lines w (length work) (length pairs) (length breaks) then (λ number. pairs)
  pub breaks-are : breaks' ≡ written (entries_of_breaks (f w)) breaks
      unless reasoned_lines f w (length work) (length pairs) (length breaks) then (λ number. breaks)
  pub worked : work' ≡ cleared (3 * length w) work unless reasoned_lines f w (length work) (length pairs) (length breaks) then work_after (3 * length w) work

-- "A short buffer for them is met by refusal 4, once the ends have been found to fit": one that has written the ends by then
pub ends-before-breaks-fit : ¬ Demand1 record_door (reasoner (ReasonsBy separated_breaks
    (λ w work pairs breaks. record_door.door w ++ icfl_lines w work pairs)))
unfolding tried separated_icfl_ends separated_pairs separated_breaks
ends-before-breaks-fit d =
    let told = d.reasoned_cut (a ∷ b ∷ []) (replicate 6 0) (replicate 4 0) [] (replicate 6 0) (1 ∷ 1 ∷ 2 ∷ 1 ∷ []) [] (refuses 4)
    (record { answer = refl; pairs-are = refl; breaks-are = refl; worked = refl }) in
    let z : ◌≡◌ {A = ℕ} 1 0 = ap (λ (t : List ℕ). get_or t 0 0) (told.1 4 refl) in
    omega arith

-- demand 2 shuts out every one whose breaks are not the factorization's
pub other-breaks : (f : List ℕ → List Break) (w : List ℕ) → 1 ≤ length w → length w ≤ most_letters
    → ¬ (entries_of_breaks (f w) ≡ entries_of_breaks (separated_breaks w))
    → ¬ Demand2 (reasoner (ReasonsBy f (reasoned_lines f))) w
other-breaks f w s l n d =
    let work : List ℕ = replicate (3 * length w) 0 in
    let pairs : List ℕ = replicate (2 * length (separated_icfl_ends w)) 0 in
    let breaks : List ℕ = replicate (5 * length (f w)) 0 in
    let size-work : length work ≡ 3 * length w = length-replicate (3 * length w) 0 in
    let size-pairs : length pairs ≡ 2 * length (separated_icfl_ends w) = length-replicate (2 * length (separated_icfl_ends w)) 0 in
    let size-breaks : length breaks ≡ 5 * length (f w) = length-replicate (5 * length (f w)) 0 in
    let own : List Line = icfl_lines w (length work) (length pairs) ++ result_line (length breaks) (5 * length (f w)) ∷ [] in
    let none : tried (reasoned_lines f w (length work) (length pairs) (length breaks)) ≡ Passed
    = both-pass (record_door.door w) own (record-door.lets-in w s l) (all_pass own (
      le-ltb (length work) (3 * length w) (omega (arith, size-work)),
      (
        le-ltb (length pairs) (2 * length (separated_icfl_ends w)) (omega (arith, size-pairs)),
        (le-ltb (length breaks) (5 * length (f w)) (omega (arith, size-breaks)), search),
      ),
    )) in
    let cut : ReasonsBy f (reasoned_lines f) w work pairs breaks (gives (length (separated_icfl_ends w), length (f w)))
    (cleared (3 * length w) work) (written (separated_pairs w) pairs) (written (entries_of_breaks (f w)) breaks) =
    record { answer = rw none refl; pairs-are = rw none refl; breaks-are = rw none refl; worked = rw none refl } in
    let gave = d.reasons work pairs breaks _ _ _ _ cut refl in
    let same : length (separated_breaks w) ≡ length (f w) = sym (ap (λ (t : Says (ℕ × ℕ)). (values_or (0, 0) t).1) gave.counts) in
    let size-own : length (entries_of_breaks (separated_breaks w)) ≡ 5 * length (f w) = length-entries (separated_breaks w) ∙ ap (λ (k : ℕ). 5 * k) same in
    let front = take_at (entries_of_breaks (f w)) _ (5 * length (f w)) (length-entries (f w)) in
    n (sym front ∙ (ap (take (5 * length (f w))) gave.breaks-are ∙ take_at (entries_of_breaks (separated_breaks w)) _ _ size-own))

-- "take the shortest such r": one that takes the longest, which is `a` for `aaab`, so that a first break lies at 2
pub longest-border : (f : List ℕ → List Break) (bs : List Break)
    → f (a ∷ a ∷ a ∷ b ∷ []) ≡ record { place = 2; begun = 0; border = 1; fate = Joined 0 } ∷ bs
    → ¬ Demand2 (reasoner (ReasonsBy f (reasoned_lines f))) (a ∷ a ∷ a ∷ b ∷ [])
unfolding separated_breaks flatten
longest-border f bs x = other-breaks f (a ∷ a ∷ a ∷ b ∷ []) (omega arith) (omega arith)
    (λ e. let z : ◌≡◌ {A = ℕ} 2 3 = ap (λ (t : List ℕ). get_or t 0 0) (rw x at e) in omega arith)
