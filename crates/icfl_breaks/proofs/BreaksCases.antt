-- Both lists filled or refused by either 4 (both-refused, both-written); the promise of the piece cut with its breaks in each of its cases: refused at its door
-- (breaks-at-door); past it (breaks-past-door) by 3 (breaks-work-refused), or tried by 4 (breaks-tried).
use mathlib.Core.Path.{◌≡◌, refl, ◌∙◌}
use mathlib.Core.List.{List, []}
use Prim.Native.Nat.{ℕ, ◌*◌}
use lib.ListN.{length}
use Rattle.words.specs.Separated.{separated_icfl_ends, separated_breaks}
use Rattle.words.specs.Pairs.{separated_pairs}
use Rattle.buffers.specs.Buffers.{cleared, written}
use Rattle.checks.specs.Lines.{Line, tried, Passed, Refused}
use Rattle.checks.specs.Answers.{Says, gives, refuses}
use Rattle.checks.proofs.LineLaws.{refused, past-door, refused-at-door}
use Rattle.breaks.specs.declared.Found.{Found}
use Rattle.breaks.specs.Gathering.{CutFound}
use Rattle.fates.specs.Entries.{entries_of_breaks}
use Rattle.icfl.specs.Icfl.{work_after}
use Rattle.icfl_breaks.specs.IcflBreaks.{breaks_lines, BreaksDone, room_lines, BothFilled}
use Rattle.icfl.proofs.IcflCases.{work_lines, refused-worked, cut-worked, NoFour, at-door-worked}

module _ (w pairs breaks : List ℕ) where
  abbrev room : List Line
  room = room_lines (length pairs) (length breaks) (length (separated_icfl_ends w)) (length (separated_breaks w))

  abbrev result : Says (ℕ × ℕ)
  result = gives (length (separated_icfl_ends w), length (separated_breaks w))

  -- either 4 leaves both buffers
  pub both-refused : {m : ℕ} → Refused m ≡ tried room → BothFilled w pairs breaks (refuses m) pairs breaks
  both-refused e = record {
    answer = refused room result (λ (i : ℕ). refuses i) e;
    pairs-are = refused room (written (separated_pairs w) pairs) (λ (i : ℕ). pairs) e;
    breaks-are = refused room (written (entries_of_breaks (separated_breaks w)) breaks) (λ (i : ℕ). breaks) e;
  }

  pub both-written : {pairs' breaks' : List ℕ} {factors count : ℕ} → tried room ≡ Passed → factors ≡ length (separated_icfl_ends w)
      → count ≡ length (separated_breaks w) → pairs' ≡ written (separated_pairs w) pairs → breaks' ≡ written (entries_of_breaks (separated_breaks w)) breaks
      → BothFilled w pairs breaks (gives (factors, count)) pairs' breaks'
  both-written p x y e f = record { answer = rw (p, x, y); pairs-are = rw p e; breaks-are = rw p f }

module _ (w work pairs breaks : List ℕ) where
  abbrev third : List Line
  third = work_lines w (length work)

  abbrev fourth : List Line
  fourth = room_lines (length pairs) (length breaks) (length (separated_icfl_ends w)) (length (separated_breaks w))

  -- refused by 3
  pub breaks-work-refused : {m : ℕ} → Refused m ≡ tried third → BreaksDone [] w work pairs breaks (refuses m) work pairs breaks
  breaks-work-refused e = record {
    answer = refused-at-door third fourth (result w pairs breaks) (λ (i : ℕ). refuses i) e;
    pairs-are = refused-at-door third fourth (written (separated_pairs w) pairs) (λ (i : ℕ). pairs) e;
    breaks-are = refused-at-door third fourth (written (entries_of_breaks (separated_breaks w)) breaks) (λ (i : ℕ). breaks) e;
    worked = refused-worked w work fourth refl e;
  }

  -- past line 3 the work buffer is cleared, whatever the lines 4 say
  pub breaks-tried : tried third ≡ Passed → {found : Found} {work₁ work₂ : List ℕ} → CutFound w work found work₁
      → {said : Says (ℕ × ℕ)} {pairs' breaks' : List ℕ}
      → BothFilled w pairs breaks said pairs' breaks' → work₂ ≡ cleared (3 * length w) work₁ → BreaksDone [] w work pairs breaks said work₂ pairs' breaks'
  breaks-tried p x f y = record {
    answer = f.answer ∙ past-door third fourth (result w pairs breaks) (λ (i : ℕ). refuses i) p;
    pairs-are = f.pairs-are ∙ past-door third fourth (written (separated_pairs w) pairs) (λ (i : ℕ). pairs) p;
    breaks-are = f.breaks-are ∙ past-door third fourth (written (entries_of_breaks (separated_breaks w)) breaks) (λ (i : ℕ). breaks) p;
    worked = cut-worked w work fourth refl p x y;
  }

-- the two ways through a door
module _ (door : List Line) (w work pairs breaks : List ℕ) where
  abbrev own : List Line
  own = breaks_lines w (length work) (length pairs) (length breaks)

  abbrev counts : Says (ℕ × ℕ)
  counts = gives (length (separated_icfl_ends w), length (separated_breaks w))

  pub breaks-at-door : NoFour door → {m : ℕ} → Refused m ≡ tried door
      → BreaksDone door w work pairs breaks (refuses m) work pairs breaks
  breaks-at-door no-four e = record {
    answer = refused-at-door door own counts (λ (i : ℕ). refuses i) e;
    pairs-are = refused-at-door door own (written (separated_pairs w) pairs) (λ (i : ℕ). pairs) e;
    breaks-are = refused-at-door door own (written (entries_of_breaks (separated_breaks w)) breaks) (λ (i : ℕ). breaks) e;
    worked = at-door-worked door own (3 * length w) work no-four e;
  }

  pub breaks-past-door : {said : Says (ℕ × ℕ)} {work' pairs' breaks' : List ℕ} → tried door ≡ Passed
      → BreaksDone [] w work pairs breaks said work' pairs' breaks'
      → BreaksDone door w work pairs breaks said work' pairs' breaks'
  breaks-past-door p f = record {
    answer = f.answer ∙ past-door door own counts (λ (i : ℕ). refuses i) p;
    pairs-are = f.pairs-are ∙ past-door door own (written (separated_pairs w) pairs) (λ (i : ℕ). pairs) p;
    breaks-are = f.breaks-are ∙ past-door door own (written (entries_of_breaks (separated_breaks w)) breaks) (λ (i : ℕ). breaks) p;
    worked = f.worked ∙ past-door door own (cleared (3 * length w) work) (work_after (3 * length w) work) p;
  }
