-- DEFINITIONS. What the piece cut with its breaks answers, writes and leaves in the work buffer (BreaksDone), request 102.
use Rattle.std.specs.Prelude.{◌≡◌, Result, List, [], ◌∷◌, ◌++◌, ℕ, ◌*◌, ◌<◌, length}
use Rattle.std.proofs.Math.Seq.{slice}
use Rattle.words.specs.Separated.{separated_icfl_ends, separated_breaks}
use Rattle.words.specs.Pairs.{separated_pairs}
use Rattle.buffers.specs.Buffers.{cleared, written}
use Rattle.checks.specs.Lines.{Line, ◌unless◌then◌, result_line}
use Rattle.checks.specs.declared.refusals.Refusal.{Refusal}
use Rattle.checks.specs.Answers.{Says, gives, refuses, says_by}
use Rattle.cuts.specs.Cutting.{CutRoom, Noted}
use Rattle.breaks.specs.declared.Found.{Found}
use Rattle.fates.specs.Entries.{entries_of_breaks}
use Rattle.icfl.specs.Icfl.{icfl_lines, work_after}
use Rattle.icfl_breaks.specs.declared.Counts.{Counts}

-- the piece cut's own lines, and "A short buffer for them is met by refusal 4, once the ends have been found to fit.": each with its count
abbrev pub breaks_lines : List ℕ → (work pairs breaks : ℕ) → List Line
breaks_lines w work pairs breaks = icfl_lines w work pairs ++ result_line breaks (5 * length (separated_breaks w)) ∷ []

-- what each case says: "both counts"
abbrev pub breaks_says : Result Counts Refusal → Says (ℕ × ℕ)
breaks_says r = says_by (λ (counts : Counts). (counts.factors, counts.breaks)) r

-- the call's promise behind the lines of a door: "A further call, which checks and leaves the work buffer as the piece cut does, gives beside the ends every
-- break the cut considered, and both counts"; "Result buffers are untouched by a refusal."
pub record BreaksDone (door : List Line) (w work pairs breaks : List ℕ) (said : Says (ℕ × ℕ)) (work' pairs' breaks' : List ℕ) : Type 0 where
  pub answer : said ≡ gives (length (separated_icfl_ends w), length (separated_breaks w))
      unless door ++ breaks_lines w (length work) (length pairs) (length breaks) then refuses
  pub pairs-are : pairs' ≡ written (separated_pairs w) pairs unless door ++ breaks_lines w (length work) (length pairs) (length breaks) then (λ number. pairs)
  pub breaks-are : breaks' ≡ written (entries_of_breaks (separated_breaks w)) breaks
      unless door ++ breaks_lines w (length work) (length pairs) (length breaks) then (λ number. breaks)
  pub worked : work' ≡ cleared (3 * length w) work
      unless door ++ breaks_lines w (length work) (length pairs) (length breaks) then work_after (3 * length w) work

-- ---- what writing both lists asks and promises

-- the ends and the notes of the cuts stand in the work buffer
pub record CutsKnown (w work : List ℕ) (found : Found) : Type 0 where
  pub room : CutRoom w work
  pub inside : found.first < length w
  pub ends : slice found.first (length w) work ≡ separated_icfl_ends w
  pub count : ℕ
  pub noted : Noted w work count
  pub breaks : found.breaks ≡ length (separated_breaks w)

-- the two lines with number 4, by the entries lent and the numbers of factors and of breaks
abbrev pub room_lines : (pairs breaks factors count : ℕ) → List Line
room_lines pairs breaks factors count = result_line pairs (2 * factors) ∷ result_line breaks (5 * count) ∷ []

-- they alone are tried
pub record BothFilled (w pairs breaks : List ℕ) (said : Says (ℕ × ℕ)) (pairs' breaks' : List ℕ) : Type 0 where
  pub answer : said ≡ gives (length (separated_icfl_ends w), length (separated_breaks w))
      unless room_lines (length pairs) (length breaks) (length (separated_icfl_ends w)) (length (separated_breaks w)) then refuses
  pub pairs-are : pairs' ≡ written (separated_pairs w) pairs
      unless room_lines (length pairs) (length breaks) (length (separated_icfl_ends w)) (length (separated_breaks w)) then (λ number. pairs)
  pub breaks-are : breaks' ≡ written (entries_of_breaks (separated_breaks w)) breaks
      unless room_lines (length pairs) (length breaks) (length (separated_icfl_ends w)) (length (separated_breaks w)) then (λ number. breaks)
