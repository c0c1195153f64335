-- What a caller of a batch can lean on: what both buffers hold afterwards, said of all records at once (batch-left); with a result buffer of at least two
-- entries for each byte no record is refused by 4 (no-fours); and a batch of one record is the single call (single-batch, batch-single).
use mathlib.Core.Path.{◌≡◌, refl, ap, sym, ◌∙◌}
use mathlib.Core.Bool.{true, false, not, true≢false}
use mathlib.Core.Logic.{◌⊎◌, inl, inr}
use mathlib.Core.List.{List, [], ◌∷◌, ◌++◌, append_assoc}
use Prim.Native.Nat.{ℕ, ◌+◌, ◌-◌, ◌*◌, ◌≤◌}
use native.Mathlib.Nat.{add-zero}
use native.Mathlib.Omega.{arith}
use lib.ListN.{length, take-append-drop, length-drop}
use lib.Dec.{eqb}
use lib.Seq.{slice, take_all, length-slice}
use borrow.Author.Tests.{le-ltb, eq-eqb}
use Rattle.words.specs.Separated.{separated_icfl_ends}
use Rattle.words.specs.Pairs.{separated_pairs}
use Rattle.theory.specs.Places.EndsRise.{rises-few}
use Rattle.theory.specs.Stretches.Factors.{separated-icfl-ends-rise}
use Rattle.conditions.specs.Conditions.{last_of, falls, are_faulty_record_ends}
use Rattle.checks.specs.Lines.{Door, tried, result_line, Checked, Passed, Refused}
use Rattle.checks.specs.Answers.{checked_number, Says, refuses, checked}
use Rattle.checks.proofs.LineLaws.{not-both, all_pass, first_alone, said, every-joined, number-tested, unmet}
use Rattle.conditions.proofs.RecordEndsLaws.{Climbs, climbs-head, climbs-tail, climbs-most, listed}
use Rattle.icfl.specs.Icfl.{icfl_lines, icfl_answer, IcflDone}
use Rattle.icfl.proofs.IcflCases.{work_lines, NoFour}
use Rattle.batch.specs.Batch.{records_from, Progress, cut_record, cut_records, uncut, batch_of, batch_with, batch_lines, BatchDone}
use Rattle.batch.specs.BatchStatements.{Left}
use Rattle.batch.proofs.FoldLaws.{left, added, batch-answers, Every, folded-work, folded-pairs, written-drop, Fits, lines_of, entries-are, cut_when, fits_by}

-- ---- both buffers

pub batch-left : {door : Door} {bytes es work pairs work' pairs' : List ℕ} {said : ℕ × List (Says ℕ)} → BatchDone door bytes es work pairs said work' pairs'
    → tried (batch_lines es (length bytes)) ≡ Passed
    → Left (records_from 0 es bytes) (batch_of door bytes es work pairs).answers work pairs work' pairs'
batch-left {door} {bytes} {es} {work} {pairs} d p = rw (batch-answers door bytes es work pairs) (record {
  result = (rw p at d.result) ∙ folded-pairs door (uncut work pairs) (records_from 0 es bytes) (omega arith);
  zeros = (rw p at d.worked) ∙ folded-work door (uncut work pairs) (records_from 0 es bytes);
})

-- ---- enough entries

abbrev pub NotByFour : Says ℕ → Type 0
NotByFour a = ¬ (a ≡ refuses 4)

few-entries : (w : List ℕ) → 2 * length (separated_icfl_ends w) ≤ 2 * length w
few-entries w = omega (arith, rises-few (separated-icfl-ends-rise w))

-- a single call with two entries for each letter
single-fits : (door : Door) (no-four : (w : List ℕ) → NoFour (door w)) (w work pairs : List ℕ) → 2 * length w ≤ length pairs
    → NotByFour (icfl_answer (door w) w work pairs)
single-fits door no-four w work pairs l x =
    let lines = door w ++ work_lines w (length work) in
    let more = result_line (length pairs) (2 * length (separated_icfl_ends w)) ∷ [] in
    let room = all_pass more (le-ltb (length pairs) (2 * length (separated_icfl_ends w)) (omega (arith, few-entries w)), tt) in
    let alone : tried (lines ++ more) ≡ tried lines = first_alone lines more (λ h. room) in
    let split : tried (door w ++ icfl_lines w (length work) (length pairs)) ≡ tried (lines ++ more) = ap tried (sym (append_assoc (door w) _ more)) in
    never (sym alone ∙ (sym split ∙ (sym (said _ (tried (door w ++ icfl_lines w (length work) (length pairs))) refl) ∙ ap checked x)))
    (number-tested (λ m. not (eqb m 4)) lines (every-joined (λ m. not (eqb m 4)) (door w) (work_lines w (length work)) (no-four w) refl))
  where
    never : {k : Checked} → k ≡ Refused 4 → ((k ≡ Passed) ⊎ (not (eqb (checked_number k) 4) ≡ true)) → ⊥
    never e (inl p) = not-both e p
    never e (inr t) = true≢false (sym (rw e at t))

-- a record leaves all entries but at most two for each of its letters
left_by : (k : Checked) (p : Progress) (w : List ℕ) → Fits p → length (left p) ≤ length (left (cut_when k p w)) + 2 * length w
left_by Passed p w l =
    let n : length (left (cut_when Passed p w)) ≡ length (left p) - length (separated_pairs w) =
    ap length (written-drop p.used p.pairs (separated_pairs w) l (entries-are w)) ∙ length-drop (length (separated_pairs w)) (left p)
    in
    omega (arith, n, few-entries w, entries-are w)
left_by (Refused number) p w l = rw (take-append-drop p.used p.pairs, add-zero p.used) (omega arith)

enough-left : (door : Door) (no-four : (w : List ℕ) → NoFour (door w)) (bytes : List ℕ) (from : ℕ) (es : List ℕ) (p : Progress)
    → Climbs (length bytes) from es → Fits p → 2 * (length bytes - from) ≤ length (left p)
    → Every NotByFour (added door p (records_from from es bytes))
unfolding records_from added cut_record
enough-left door no-four bytes from [] p c f l = tt
enough-left door no-four bytes from (e ∷ es) p c f l =
    let w = slice from e bytes in
    let n : length w ≡ e - from = length-slice from e bytes (climbs-most (climbs-tail c)) in
    let most : e ≤ length bytes = climbs-most (climbs-tail c) in (
      single-fits door no-four w p.work (left p) (omega (arith, n, most, l)),
      enough-left door no-four bytes e es (cut_record door p w) (climbs-tail c) (fits_by (tried (lines_of door p w)) p w f)
          (omega (arith, n, l, climbs-head c, left_by (tried (lines_of door p w)) p w f)),
    )

pub no-fours : (door : Door) (no-four : (w : List ℕ) → NoFour (door w)) (bytes es work pairs : List ℕ)
    → tried (batch_lines es (length bytes)) ≡ Passed → 2 * length bytes ≤ length pairs
    → Every NotByFour (batch_of door bytes es work pairs).answers
no-fours door no-four bytes es work pairs p l =
    let c = (listed es (length bytes) (unmet (batch_lines es (length bytes)) p).0).climbs in
    rw (batch-answers door bytes es work pairs) (enough-left door no-four bytes 0 es (uncut work pairs) c (omega arith) (omega (arith, l)))

-- ---- one record

one-listed : (n : ℕ) → are_faulty_record_ends (n ∷ []) n ≡ false
unfolding are_faulty_record_ends falls last_of
one-listed n = rw (eq-eqb n n refl) refl

one_passes : (w : List ℕ) → tried (batch_lines (length w ∷ []) (length w)) ≡ Passed
one_passes w = all_pass (batch_lines (length w ∷ []) (length w)) (one-listed (length w), tt)

module _ (door : Door) (w work pairs : List ℕ) where
  one-cut : batch_of door w (length w ∷ []) work pairs ≡ cut_record door (uncut work pairs) w
  unfolding records_from cut_records
  one-cut = ap (cut_record door (uncut work pairs)) (take_all (length w) w (omega arith))

  pub single-batch : {work' pairs' : List ℕ} {said : ℕ × List (Says ℕ)} → BatchDone door w (length w ∷ []) work pairs said work' pairs'
      → (said ≡ batch_with 0 (icfl_answer (door w) w work pairs ∷ []))
      × IcflDone (door w) w work pairs (icfl_answer (door w) w work pairs) work' pairs'
  unfolding cut_record
  single-batch d = (
    (rw (one_passes w) at d.answer) ∙ ap (λ (p : Progress). batch_with 0 p.answers) one-cut,
    record {
      answer = refl;
      result = (rw (one_passes w) at d.result) ∙ ap (λ (p : Progress). p.pairs) one-cut;
      worked = (rw (one_passes w) at d.worked) ∙ ap (λ (p : Progress). p.work) one-cut;
    },
  )

  pub batch-single : {a : Says ℕ} {work' pairs' : List ℕ} → IcflDone (door w) w work pairs a work' pairs' → (said : ℕ × List (Says ℕ))
      → said ≡ batch_with 0 (a ∷ []) → BatchDone door w (length w ∷ []) work pairs said work' pairs'
  unfolding cut_record
  batch-single {a} d said e = record {
    answer = rw (one_passes w) (e ∙ ap (λ (x : Says ℕ). batch_with 0 (x ∷ [])) d.answer
        ∙ ap (λ (p : Progress). batch_with 0 p.answers) (sym one-cut));
    result = rw (one_passes w) (d.result ∙ ap (λ (p : Progress). p.pairs) (sym one-cut));
    worked = rw (one_passes w) (d.worked ∙ ap (λ (p : Progress). p.work) (sym one-cut));
  }
