-- The fold over the records: the answers it adds (added, batch-answers), of which each is a single call's (every-added); and what it leaves of both buffers,
-- said of all records at once (folded-pairs, folded-work).
use mathlib.Core.Path.{◌≡◌, refl, ap, sym, ◌∙◌}
use mathlib.Core.Bool.{Bool, true, false}
use mathlib.Core.List.{List, [], ◌∷◌, ◌++◌, append_assoc, append-nil}
use Prim.Native.Nat.{ℕ, suc, ◌+◌, ◌*◌, ◌≤◌, max}
use native.Mathlib.Nat.{add-zero}
use native.Mathlib.Omega.{arith}
use lib.ListN.{length, take, drop, take-append-drop, length-append}
use lib.Seq.{take_at, drop_at, drop-drop, length-take-le}
use lib.Dec.{eqb}
use Rattle.words.specs.Separated.{separated_icfl_ends}
use Rattle.words.specs.Pairs.{separated_pairs}
use Rattle.theory.proofs.Stretches.RecordPairs.{pairs-entries}
use Rattle.buffers.specs.Buffers.{cleared, written}
use Rattle.buffers.proofs.BufferLaws.{cleared-twice}
use Rattle.checks.specs.Lines.{Line, Door, tried, decided, Checked, Passed, Refused}
use Rattle.checks.specs.Answers.{Says, gives, refuses}
use Rattle.icfl.specs.Icfl.{icfl_lines, work_after, icfl_answer, icfl_work}
use Rattle.batch.specs.Batch.{Progress, used_entries, cut_record, cut_records, records_from, uncut, batch_of}
use Rattle.batch.specs.BatchStatements.{was_cut, longest_cut, packed_pairs}

-- ---- the answers

-- what is left of the result buffer
abbrev pub left : Progress → List ℕ
left p = drop p.used p.pairs

-- the answers that the records add
unfoldable pub added : Door → Progress → List (List ℕ) → List (Says ℕ)
unfolding cut_record
added door p [] = []
added door p (w ∷ ws) = icfl_answer (door w) w p.work (left p) ∷ added door (cut_record door p w) ws

pub answers-split : (door : Door) (p : Progress) (ws : List (List ℕ)) → (cut_records door p ws).answers ≡ p.answers ++ added door p ws
unfolding added cut_records cut_record
answers-split door p [] = sym (append-nil p.answers)
answers-split door p (w ∷ ws) = answers-split door (cut_record door p w) ws ∙ append_assoc p.answers _ (added door (cut_record door p w) ws)

pub batch-answers : (door : Door) (bytes es work pairs : List ℕ)
    → (batch_of door bytes es work pairs).answers ≡ added door (uncut work pairs) (records_from 0 es bytes)
batch-answers door bytes es work pairs = answers-split door (uncut work pairs) (records_from 0 es bytes)

added-length : (door : Door) (p : Progress) (ws : List (List ℕ)) → length (added door p ws) ≡ length ws
unfolding added
added-length door p [] = refl
added-length door p (w ∷ ws) = ap suc (added-length door (cut_record door p w) ws)

records-count : (a : ℕ) (es bytes : List ℕ) → length (records_from a es bytes) ≡ length es
unfolding records_from
records-count a [] bytes = refl
records-count a (e ∷ es) bytes = ap suc (records-count e es bytes)

-- one answer for each record end
pub batch-count : (door : Door) (bytes es work pairs : List ℕ) → length (batch_of door bytes es work pairs).answers ≡ length es
batch-count door bytes es work pairs =
    ap length (batch-answers door bytes es work pairs) ∙ added-length door (uncut work pairs) (records_from 0 es bytes) ∙ records-count 0 es bytes

-- P holds of each answer
abbrev pub Every : (Says ℕ → Type 0) → List (Says ℕ) → Type 0
Every P [] = Unit {0}
Every P (a ∷ answers) = P a × Every P answers

pub every-added : (door : Door) (P : Says ℕ → Type 0) → ((w work pairs : List ℕ) → P (icfl_answer (door w) w work pairs))
    → (p : Progress) (ws : List (List ℕ)) → Every P (added door p ws)
unfolding added
every-added door P h p [] = tt
every-added door P h p (w ∷ ws) = (h w p.work (left p), every-added door P h (cut_record door p w) ws)

-- ---- the work buffer

-- one record
single-work : (door : Door) (w work pairs : List ℕ)
    → icfl_work (door w) w work pairs ≡ cleared (3 * (elim (was_cut (icfl_answer (door w) w work pairs)) [ true ↦ length w | false ↦ 0 ])) work
single-work door w work pairs = go (tried (door w ++ icfl_lines w (length work) (length pairs)))
  where
    by-four : (t : Bool) → elim t [ true ↦ cleared (3 * length w) work | false ↦ work ] ≡ cleared (3 * (elim t [ true ↦ length w | false ↦ 0 ])) work
    by-four true = refl
    by-four false = refl

    go : (k : Checked) → decided k (cleared (3 * length w) work) (work_after (3 * length w) work)
        ≡ cleared (3 * (elim (was_cut (decided k (gives (length (separated_icfl_ends w))) refuses)) [ true ↦ length w | false ↦ 0 ])) work
    go Passed = refl
    go (Refused number) = by-four (eqb number 4)

pub folded-work : (door : Door) (p : Progress) (ws : List (List ℕ)) → (cut_records door p ws).work ≡ cleared (3 * longest_cut ws (added door p ws)) p.work
unfolding added cut_records cut_record longest_cut
folded-work door p [] = refl
folded-work door p (w ∷ ws) =
    let n = elim (was_cut (icfl_answer (door w) w p.work (left p))) as (λ t. ℕ) [ true ↦ length w | false ↦ 0 ] in
    let m = longest_cut ws (added door (cut_record door p w) ws) in
    let z : max (3 * n) (3 * m) ≡ 3 * max n m = omega arith in
    folded-work door (cut_record door p w) ws
    ∙ ap (cleared (3 * m)) (single-work door w p.work (left p))
    ∙ cleared-twice (3 * n) (3 * m) p.work
    ∙ ap (λ (k : ℕ). cleared k p.work) z

-- ---- the result buffer: vs stand behind the first u entries, and rest behind these

module _ (u : ℕ) (pairs vs : List ℕ) (l : u ≤ length pairs) {n : ℕ} (e : n ≡ length vs) where
  behind-length : length (take u pairs ++ vs) ≡ u + length vs
  behind-length = length-append (take u pairs) vs ∙ omega (arith, length-take-le u pairs l)

  again : take u pairs ++ written vs (drop u pairs) ≡ (take u pairs ++ vs) ++ drop (length vs) (drop u pairs)
  again = sym (append_assoc (take u pairs) vs (drop (length vs) (drop u pairs)))

  pub written-take : take (u + n) (take u pairs ++ written vs (drop u pairs)) ≡ take u pairs ++ vs
  written-take = ap (take (u + n)) again ∙ take_at (take u pairs ++ vs) _ (u + n) (rw e behind-length)

  pub written-drop : drop (u + n) (take u pairs ++ written vs (drop u pairs)) ≡ drop (length vs) (drop u pairs)
  written-drop = ap (drop (u + n)) again ∙ drop_at (take u pairs ++ vs) _ (u + n) (rw e behind-length)

-- one list after another is written as the two joined
written_both : (vs ws buffer : List ℕ) → vs ++ written ws (drop (length vs) buffer) ≡ written (vs ++ ws) buffer
written_both vs ws buffer =
    sym (append_assoc vs ws (drop (length ws) (drop (length vs) buffer)))
    ∙ ap (λ (t : List ℕ). (vs ++ ws) ++ t) (drop-drop (length ws) (length vs) buffer ∙ ap (λ (n : ℕ). drop n buffer) (sym (length-append vs ws)))

-- ---- the fold, with what the single call's lines say set apart

-- no more is used than there is
abbrev pub Fits : Progress → Type 0
Fits p = p.used ≤ length p.pairs

abbrev pub lines_of : Door → Progress → List ℕ → List Line
lines_of door p w = door w ++ icfl_lines w (length p.work) (length (left p))

abbrev pub answer_by : Checked → List ℕ → Says ℕ
answer_by k w = decided k (gives (length (separated_icfl_ends w))) refuses

-- the entries of a record that was cut
pub entries-are : (w : List ℕ) → 2 * length (separated_icfl_ends w) ≡ length (separated_pairs w)
entries-are w = sym (pairs-entries w)

-- the next record, where the lines say k
abbrev pub cut_when : Checked → Progress → List ℕ → Progress
cut_when k p w = record {
  answers = p.answers ++ answer_by k w ∷ [];
  work = decided k (cleared (3 * length w) p.work) (work_after (3 * length w) p.work);
  pairs = take p.used p.pairs ++ decided k (written (separated_pairs w) (left p)) (λ number. left p);
  used = p.used + used_entries (answer_by k w);
}

pub cut_by : (door : Door) (p : Progress) (w : List ℕ) → cut_record door p w ≡ cut_when (tried (lines_of door p w)) p w
unfolding cut_record
cut_by door p w = refl

pub fits_by : (k : Checked) (p : Progress) (w : List ℕ) → Fits p → Fits (cut_when k p w)
fits_by Passed p w l =
    let e = entries-are w in
    rw (again p.used p.pairs (separated_pairs w) l e, length-append, behind-length p.used p.pairs (separated_pairs w) l e) (omega (arith, e))
fits_by (Refused number) p w l = rw (take-append-drop p.used p.pairs) (omega (arith, l))

pub folded-pairs : (door : Door) (p : Progress) (ws : List (List ℕ)) → Fits p
    → (cut_records door p ws).pairs ≡ take p.used p.pairs ++ written (packed_pairs ws (added door p ws)) (left p)
unfolding added cut_records cut_record packed_pairs
folded-pairs door p [] l = sym (take-append-drop p.used p.pairs)
folded-pairs door p (w ∷ ws) l = go (tried (lines_of door p w)) (folded-pairs door (cut_record door p w) ws (fits_by (tried (lines_of door p w)) p w l))
  where
    go : (k : Checked) → (let q = cut_when k p w in
        (cut_records door q ws).pairs ≡ take q.used q.pairs ++ written (packed_pairs ws (added door q ws)) (left q)
        → (cut_records door q ws).pairs ≡ take p.used p.pairs ++ written (packed_pairs (w ∷ ws) (answer_by k w ∷ added door q ws)) (left p))
    go Passed ih =
        let u = p.used in
        let vs = separated_pairs w in
        let more = packed_pairs ws (added door (cut_when Passed p w) ws) in
        ih
        ∙ ap (λ (t : List ℕ). t ++ written more (left (cut_when Passed p w))) (written-take u p.pairs vs l (entries-are w))
        ∙ ap (λ (t : List ℕ). (take u p.pairs ++ vs) ++ written more t) (written-drop u p.pairs vs l (entries-are w))
        ∙ append_assoc (take u p.pairs) vs (written more (drop (length vs) (left p)))
        ∙ ap (λ (t : List ℕ). take u p.pairs ++ t) (written_both vs more (left p))
    go (Refused number) ih =
        let more = packed_pairs ws (added door (cut_when (Refused number) p w) ws) in
        ih
        ∙ ap (λ (t : List ℕ). take (p.used + 0) t ++ written more (drop (p.used + 0) t)) (take-append-drop p.used p.pairs)
        ∙ ap (λ (n : ℕ). take n p.pairs ++ written more (drop n p.pairs)) (add-zero p.used)
