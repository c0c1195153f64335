-- DEFINITIONS. What the test answers and leaves in the work buffer (ExtensionFound), and what its inner functions ask and promise.
use Rattle.std.specs.Prelude.{◌≡◌, Result, Option, None, Some, Bool, true, false, List, [], ◌∷◌, ◌++◌, ℕ, ◌-◌, ◌≤◌, ◌<◌, length, drop, get_or}
use Rattle.words.specs.Words.{most_letters, is_inverse_lyndon}
use Rattle.words.specs.Factorizations.{failing_length, prefix_length, border_length}
use Rattle.theory.specs.Scan.Scanned.{Scanned}
use Rattle.theory.specs.Scan.ScannedBorders.{Table}
use Rattle.buffers.specs.Buffers.{cleared}
use Rattle.checks.specs.Lines.{Line, ◌unless◌then◌, work_line, mark_line}
use Rattle.checks.specs.declared.refusals.Refusal.{Refusal}
use Rattle.checks.specs.Answers.{Says, gives, refuses, says_by}
use Rattle.scan.specs.State.{Rests}
use Rattle.scan.specs.declared.Scan.{Scan}
use Rattle.extension.specs.declared.Extension.{Extension}

-- 'The test answers "falling", or "failing" with L, |p| and |r|.': what each case says, nothing for "falling"
abbrev pub test_says : Result (Option Extension) Refusal → Says (Option Extension)
test_says r = says_by (λ x. x) r

abbrev pub verdict_as : Bool → ℕ → ℕ → ℕ → Option Extension
verdict_as true failing prefix border = None
verdict_as false failing prefix border = Some (record { failing = failing; prefix = prefix; border = border })

-- the result
unfoldable pub verdict_of : List ℕ → Option Extension
verdict_of w = verdict_as (is_inverse_lyndon w) (failing_length w) (prefix_length w) (border_length w)

-- the test's own lines, tried past those at its door: 3, and "9, a test of a record that holds a mark, after 3"
abbrev pub extension_lines : List ℕ → ℕ → List Line
extension_lines w entries = work_line entries (length w) ∷ mark_line w ∷ []

-- the call's promise, by the lines at its door: its answer; and "after an accepted .. test .. the entries counted in line 3 are zero and later ones
-- unchanged", untouched by a refusal
pub record ExtensionFound (door : List Line) (w work : List ℕ) (said : Says (Option Extension)) (work' : List ℕ) : Type 0 where
  pub answer : said ≡ gives (verdict_of w) unless door ++ extension_lines w (length work) then refuses
  pub buffer : work' ≡ cleared (length w) work unless door ++ extension_lines w (length work) then (λ number. work)

-- ---- inner functions

-- a word that was accepted, and work entries for it
pub record TestRoom (w work : List ℕ) : Type 0 where
  pub nonempty : 0 < length w
  pub short : length w ≤ most_letters
  pub entries : length w ≤ length work

-- a scan that has stopped, with the longest borders of the prefixes before it
pub record Scanning (w work : List ℕ) (s : Scan) (work' : List ℕ) : Type 0 where
  pub rests : Rests w s
  pub table : Table w work' (s.length - 1)
  pub kept : drop (length w) work' ≡ drop (length w) work

pub record Ready (w table : List ℕ) (n b : ℕ) : Type 0 where
  pub scanned : Scanned w n b
  pub inside : n < length w
  pub entries : length w ≤ length table
  pub above : get_or w b 0 < get_or w n 0
  pub borders : Table w table (n - 1)

pub record Verdict (w work : List ℕ) (r : Option Extension) (work' : List ℕ) : Type 0 where
  pub answer : r ≡ verdict_of w
  pub kept : drop (length w) work' ≡ drop (length w) work
