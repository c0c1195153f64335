-- The piece cut's promise in each of its cases: refused at its door (icfl-at-door); past it (icfl-past-door) by 3 (work-refused), or tried by 4
-- (pairs-tried). Without and with breaks the work buffer is cleared just where line 3 is tried and passes (refused-worked, cut-worked, at-door-worked), and
-- the ends are found in it (ends-count, ends-part). What the promise tells of a result (pairs-counted, pairs-front).
use mathlib.Core.Path.{◌≡◌, refl, ap, sym, ◌∙◌}
use mathlib.Core.Bool.{Bool, true, false, not}
use mathlib.Core.List.{List, [], ◌∷◌, ◌++◌}
use Prim.Native.Nat.{ℕ, ◌-◌, ◌*◌, ◌≤◌}
use native.Mathlib.Omega.{arith}
use borrow.Author.Tests.{not-true}
use lib.ListN.{length, take}
use lib.Seq.{length-slice}
use lib.Dec.{eqb}
use Rattle.words.specs.Separated.{separated_icfl_ends}
use Rattle.words.specs.Pairs.{separated_pairs}
use Rattle.theory.proofs.Stretches.RecordPairs.{pairs-entries}
use Rattle.buffers.specs.Buffers.{cleared, written}
use Rattle.buffers.proofs.BufferLaws.{cleared-kept}
use Rattle.buffers.proofs.PartLaws.{part, part-is}
use Rattle.checks.specs.Lines.{Line, tried, ◌unless◌then◌, work_line, result_line, Accepted, Passed, Refused}
use Rattle.checks.specs.Answers.{Says, gives, refuses, Filled}
use Rattle.checks.proofs.LineLaws.{
  refused,
  past-door,
  refused-at-door,
  every_number,
  refused-tested,
  unless-but,
  filled-at-door,
  filled-past-door,
  filled-counted,
  filled-entries,
}
use Rattle.checks.proofs.RecordLaws.{enough}
use Rattle.breaks.specs.declared.Found.{Found}
use Rattle.cuts.specs.Cutting.{CutRoom}
use Rattle.breaks.specs.Gathering.{CutFound}
use Rattle.icfl.specs.Icfl.{icfl_lines, work_after, PairsFilled, IcflDone}

-- ---- what both calls share

-- line 3, which both try first
abbrev pub work_lines : List ℕ → ℕ → List Line
work_lines w work = work_line work (3 * length w) ∷ []

pub cut-room : {w work : List ℕ} → Accepted w → tried (work_lines w (length work)) ≡ Passed → CutRoom w work
cut-room {w} {work} a p = record { nonempty = a.nonempty; short = a.short; entries = enough 3 (length work) (3 * length w) p }

-- the ends stand from entry first to entry n
module _ {w work work₁ : List ℕ} {found : Found} (x : CutFound w work found work₁) (l : length w ≤ length work₁) where
  pub ends-count : length w - found.first ≡ length (separated_icfl_ends w)
  ends-count = sym (length-slice found.first (length w) work₁ l) ∙ ap length x.ends

  pub ends-part : part found.first (length w) work₁ ≡ separated_icfl_ends w
  ends-part = part-is found.first (length w) work₁ ∙ x.ends

-- past line 3 only lines with number 4 are tried
module _ (w work : List ℕ) (more : List Line) (fours : every_number (λ m. eqb m 4) more ≡ true) where
  abbrev Worked : List ℕ → Type 0
  Worked work' = work' ≡ cleared (3 * length w) work unless work_lines w (length work) ++ more then work_after (3 * length w) work

  worked-by-3 : (cleared (3 * length w) work unless work_lines w (length work) ++ more then work_after (3 * length w) work)
      ≡ (cleared (3 * length w) work unless work_lines w (length work) then (λ number. work))
  worked-by-3 = unless-but (cleared (3 * length w) work) work (work_lines w (length work)) more 4 refl fours

  pub refused-worked : {m : ℕ} → Refused m ≡ tried (work_lines w (length work)) → Worked work
  refused-worked e = refused (work_lines w (length work)) (cleared (3 * length w) work) (λ number. work) e ∙ sym worked-by-3

  pub cut-worked : tried (work_lines w (length work)) ≡ Passed → {found : Found} {work₁ work₂ : List ℕ} → CutFound w work found work₁
      → work₂ ≡ cleared (3 * length w) work₁ → Worked work₂
  cut-worked p {found} {work₁} x y = rw (worked-by-3, p) (y ∙ cleared-kept (3 * length w) work₁ work x.kept)

-- no line at a door has number 4
abbrev pub NoFour : List Line → Type 0
NoFour door = every_number (λ m. not (eqb m 4)) door ≡ true

pub at-door-worked : (door own : List Line) (n : ℕ) (work : List ℕ) → NoFour door → {m : ℕ} → Refused m ≡ tried door
    → work ≡ cleared n work unless door ++ own then work_after n work
at-door-worked door own n work no-four {m} e =
    let other : eqb m 4 ≡ false = not-true (eqb m 4) (refused-tested (λ i. not (eqb i 4)) door no-four e) in
    sym (ap (λ (t : Bool). elim t [ true ↦ cleared n work | false ↦ work ]) other) ∙ refused-at-door door own (cleared n work) (work_after n work) e

-- ---- the piece cut

-- it fills the result buffer
pub icfl-filled : {door : List Line} {w work pairs : List ℕ} {said : Says ℕ} {work' pairs' : List ℕ} → IcflDone door w work pairs said work' pairs'
    → Filled (door ++ icfl_lines w (length work) (length pairs)) (length (separated_icfl_ends w)) (separated_pairs w) pairs said pairs'
icfl-filled d = record { answer = d.answer; result = d.result }

module _ (w work buffer : List ℕ) where
  abbrev room : List Line
  room = result_line (length buffer) (2 * length (separated_icfl_ends w)) ∷ []

  abbrev lines : List Line
  lines = icfl_lines w (length work) (length buffer)

  done : {said : Says ℕ} {work' buffer' : List ℕ} → Filled lines (length (separated_icfl_ends w)) (separated_pairs w) buffer said buffer'
      → (work' ≡ cleared (3 * length w) work unless lines then work_after (3 * length w) work) → IcflDone [] w work buffer said work' buffer'
  done f y = record { answer = f.answer; result = f.result; worked = y }

  pub work-refused : {m : ℕ} → Refused m ≡ tried (work_lines w (length work)) → IcflDone [] w work buffer (refuses m) work buffer
  work-refused e = done (filled-at-door (work_lines w (length work)) room _ _ _ e) (refused-worked w work room refl e)

  -- past line 3 the work buffer is cleared, whatever line 4 says
  pub pairs-tried : tried (work_lines w (length work)) ≡ Passed → {found : Found} {work₁ work₂ : List ℕ} → CutFound w work found work₁
      → {said : Says ℕ} {buffer' : List ℕ} → PairsFilled w buffer said buffer' → work₂ ≡ cleared (3 * length w) work₁
      → IcflDone [] w work buffer said work₂ buffer'
  pairs-tried p x f y = done (filled-past-door (work_lines w (length work)) p f) (cut-worked w work room refl p x y)

-- the two ways through a door
module _ (door : List Line) (w work buffer : List ℕ) where
  abbrev own : List Line
  own = icfl_lines w (length work) (length buffer)

  abbrev count : Says ℕ
  count = gives (length (separated_icfl_ends w))

  pub icfl-at-door : NoFour door → {m : ℕ} → Refused m ≡ tried door → IcflDone door w work buffer (refuses m) work buffer
  icfl-at-door no-four e = record {
    answer = refused-at-door door own count (λ (i : ℕ). refuses i) e;
    result = refused-at-door door own (written (separated_pairs w) buffer) (λ (i : ℕ). buffer) e;
    worked = at-door-worked door own (3 * length w) work no-four e;
  }

  pub icfl-past-door : {said : Says ℕ} {work' buffer' : List ℕ} → tried door ≡ Passed → IcflDone [] w work buffer said work' buffer'
      → IcflDone door w work buffer said work' buffer'
  icfl-past-door p d = record {
    answer = d.answer ∙ past-door door own count (λ (i : ℕ). refuses i) p;
    result = d.result ∙ past-door door own (written (separated_pairs w) buffer) (λ (i : ℕ). buffer) p;
    worked = d.worked ∙ past-door door own (cleared (3 * length w) work) (work_after (3 * length w) work) p;
  }

-- ---- what a result tells: as many pairs as the answer says stand at the buffer's front

module _ {door : List Line} {w work buffer : List ℕ} {n : ℕ} {work' buffer' : List ℕ} (d : IcflDone door w work buffer (gives n) work' buffer') where
  pub pairs-counted : n ≡ length (separated_icfl_ends w)
  pairs-counted = (filled-counted (icfl-filled d)).1

  pub pairs-front : (take (2 * n) buffer' ≡ separated_pairs w) × (2 * n ≤ length buffer')
  pairs-front = filled-entries (icfl-filled d) (2 * n) (omega (arith, pairs-counted, pairs-entries w))
