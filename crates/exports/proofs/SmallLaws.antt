-- That the numbers of an answer fit into sixteen bits, whatever lines stand at the call's door, if only accepted records pass them (Guards): the counts
-- (icfl-small, cfl-in-small, table-small, runs-small), the cut with breaks (breaks-small), the test (test-small), the comparison (comparison-small), the batch
-- (batch-small).
use mathlib.Core.Path.{◌≡◌, refl, ap}
use mathlib.Core.Bool.{Bool, true, false}
use mathlib.Core.List.{List, [], ◌∷◌, ◌++◌}
use Prim.Native.Nat.{ℕ, zero, suc, ◌≤◌}
use native.Mathlib.Omega.{arith}
use lib.ListN.{length, get_or}
use Rattle.std.specs.Prelude.{ℤ, Option}
use Rattle.words.specs.Words.{InverseLyndon, is_inverse_lyndon}
use Rattle.words.specs.Factorizations.{failing_length, prefix_length, border_length}
use Rattle.theory.specs.Orders.Decisions.{decides-false}
use Rattle.theory.specs.Lyndon.WordTests.{inverse-lyndon-test}
use Rattle.theory.specs.Icfl.BorderLength.{step_is}
use Rattle.theory.specs.Icfl.Failing.{failing-is}
use Rattle.words.specs.Separated.{separated_icfl_ends, separated_breaks}
use Rattle.theory.specs.Orders.CommonWithin.{common-within-short}
use Rattle.theory.specs.Places.EndsRise.{rises-few}
use Rattle.theory.specs.Stretches.Factors.{separated-icfl-ends-rise}
use Rattle.theory.proofs.Stretches.Factors.{separated-cfl-in-ends-rise}
use Rattle.theory.specs.Stretches.StretchBreaks.{separated-breaks-few}
use Rattle.theory.proofs.Stretches.SeparatedRuns.{separated-runs-few}
use Rattle.conditions.proofs.RecordEndsLaws.{listed}
use Rattle.checks.specs.Lines.{Line, Door, tried, decided, ◌unless◌then◌, Accepted, Checked, Passed, Refused}
use Rattle.checks.specs.Answers.{Says, gives, refuses}
use Rattle.checks.proofs.LineLaws.{both-passed, unmet}
use Rattle.checks.proofs.RecordLaws.{accepted}
use Rattle.extension.specs.declared.Extension.{Extension}
use Rattle.extension.specs.Extension.{verdict_as, verdict_of, extension_lines, ExtensionFound}
use Rattle.icfl.specs.Icfl.{icfl_lines, icfl_answer, IcflDone}
use Rattle.icfl_breaks.specs.IcflBreaks.{breaks_lines, BreaksDone}
use Rattle.cfl.specs.CflIn.{cfl_in_lines, CflInDone}
use Rattle.table.specs.Table.{table_lines, Tabled}
use Rattle.runs.specs.Runs.{runs_lines, RunsDone}
use Rattle.compare.specs.Compare.{compare_lines, order_of, Compared}
use Rattle.batch.specs.Batch.{records_from, uncut, batch_of, batch_with, batch_lines, BatchDone}
use Rattle.batch.proofs.FoldLaws.{batch-answers, batch-count, Every, every-added}
use Rattle.exports.specs.Exports.{export_door}
use Rattle.numbers.specs.Numbers.{SmallCount, SmallTest, SmallBreaks, SmallComparison, SmallBatch}

-- only an accepted record passes these lines
abbrev pub Guards : List Line → List ℕ → Type 0
Guards door w = tried door ≡ Passed → Accepted w

-- of an accepted record, which is short, no number in an answer is above its length; and only such a one passes an exported function's door
pub guarded : (w : List ℕ) → Guards (export_door w) w
guarded = accepted

-- what holds of the result where the lines pass, and of every refusal, holds of the answer
answer-has : {A : Type 0} (P : A → Type 0) (lines : List Line) (result : A) (refusal : ℕ → A) {a : A} → a ≡ result unless lines then refusal
    → (tried lines ≡ Passed → P result) → ((number : ℕ) → P (refusal number)) → P a
answer-has P lines result refusal e p q = rw e (go (tried lines) refl)
  where
    go : (k : Checked) → tried lines ≡ k → P (decided k result refusal)
    go Passed z = p z
    go (Refused number) z = q number

-- ---- counts

count_small : (door own : List Line) (w : List ℕ) {n : ℕ} {s : Says ℕ} → Guards door w → n ≤ length w
    → s ≡ gives n unless door ++ own then refuses → SmallCount s
count_small door own w {n} g l e =
    answer-has SmallCount (door ++ own) (gives n) (λ i. refuses i) e
    (λ p. omega (arith, l, (g (both-passed door own p).0).short))
    (λ i. omega arith)

single-small : (door : List Line) (w work pairs : List ℕ) → Guards door w → SmallCount (icfl_answer door w work pairs)
single-small door w work pairs g =
    count_small door (icfl_lines w (length work) (length pairs)) w g (omega (arith, rises-few (separated-icfl-ends-rise w))) refl

pub icfl-small : {door : List Line} {w work pairs work' pairs' : List ℕ} {said : Says ℕ} → Guards door w → IcflDone door w work pairs said work' pairs'
    → SmallCount said
icfl-small {door} {w} {work} {pairs} g f = rw f.answer (single-small door w work pairs g)

pub cfl-in-small : (door : List Line) (w ends : List ℕ) {ends' : List ℕ} {said : Says ℕ} → Guards door w → CflInDone door w ends said ends' → SmallCount said
cfl-in-small door w ends g f = count_small door (cfl_in_lines w (length ends)) w g (omega (arith, rises-few (separated-cfl-in-ends-rise w))) f.answer

pub table-small : (door : List Line) (w out : List ℕ) {out' : List ℕ} {said : Says ℕ} → Guards door w → Tabled door w out said out' → SmallCount said
table-small door w out g f = count_small door (table_lines w (length out)) w g (omega arith) f.answer

pub runs-small : (door : List Line) (w out : List ℕ) {out' : List ℕ} {said : Says ℕ} → Guards door w → RunsDone door w out said out' → SmallCount said
runs-small door w out g f = count_small door (runs_lines w (length out)) w g (separated-runs-few w) f.answer

-- ---- the cut with breaks

pub breaks-small : {door : List Line} {w work pairs breaks work' pairs' breaks' : List ℕ} {said : Says (ℕ × ℕ)} → Guards door w
    → BreaksDone door w work pairs breaks said work' pairs' breaks' → SmallBreaks said
breaks-small {door} {w} {work} {pairs} {breaks} g f =
    let own = breaks_lines w (length work) (length pairs) (length breaks) in
    let counts : Says (ℕ × ℕ) = gives (length (separated_icfl_ends w), length (separated_breaks w)) in
    answer-has SmallBreaks (door ++ own) counts (λ i. refuses i) f.answer
    (λ p. let l = (g (both-passed door own p).0).short in (omega (arith, l, rises-few (separated-icfl-ends-rise w)), omega (arith, l, separated-breaks-few w)))
    (λ i. (omega arith, omega arith))

-- ---- the test

verdict-small : (w : List ℕ) → Accepted w → (t : Bool) → is_inverse_lyndon w ≡ t
    → SmallTest (gives (verdict_as t (failing_length w) (prefix_length w) (border_length w)))
verdict-small w a true d = (omega arith, omega arith, omega arith)
verdict-small w a false d =
    let n : ¬ InverseLyndon w = decides-false (inverse-lyndon-test w) d in
    let step = step_is w a.nonempty n in
    let inside = failing-is w a.nonempty n in
    (omega (arith, inside.inside, a.short), omega (arith, step.failing.inside, a.short), omega (arith, step.failing.inside, a.short))

pub test-small : {door : List Line} {w work work' : List ℕ} {said : Says (Option Extension)} → Guards door w → ExtensionFound door w work said work'
    → SmallTest said
unfolding verdict_of
test-small {door} {w} {work} g f =
    let own = extension_lines w (length work) in
    answer-has SmallTest (door ++ own) (gives (verdict_of w)) (λ i. refuses i) f.answer
    (λ p. verdict-small w (g (both-passed door own p).0) (is_inverse_lyndon w) refl)
    (λ i. (omega arith, omega arith, omega arith))

-- ---- the comparison

pub comparison-small : {door : List Line} {w : List ℕ} {first end start other : ℕ} {said : Says (ℤ × ℕ)} → Guards door w
    → Compared door w first end start other said
    → SmallComparison said
comparison-small {door} {w} {first} {end} {start} {other} g f =
    let own = compare_lines (length w) first end start other in
    answer-has SmallComparison (door ++ own) (gives (order_of w first end start other)) (λ i. refuses i) f.answer
    (λ p. omega (arith, (g (both-passed door own p).0).short, common-within-short w first end start other))
    (λ i. omega arith)

-- ---- the batch

each-small : (answers : List (Says ℕ)) → Every SmallCount answers → (i : ℕ) → SmallCount (get_or answers i (gives 0))
each-small [] h i = omega arith
each-small (a ∷ answers) h zero = h.0
each-small (a ∷ answers) h (suc i) = each-small answers h.1 i

pub batch-small : {door : Door} {bytes es work pairs work' pairs' : List ℕ} {said : ℕ × List (Says ℕ)} → ((w : List ℕ) → Guards (door w) w)
    → BatchDone door bytes es work pairs said work' pairs' → SmallBatch said (length es)
batch-small {door} {bytes} {es} {work} {pairs} {said = said} g f = go (tried lines) refl f.answer
  where
    lines : List Line
    lines = batch_lines es (length bytes)

    answers : List (Says ℕ)
    answers = (batch_of door bytes es work pairs).answers

    count : length answers ≡ length es
    count = batch-count door bytes es work pairs

    each : Every SmallCount answers
    each = rw (batch-answers door bytes es work pairs)
        (every-added door SmallCount (λ w work pairs. single-small (door w) w work pairs (g w)) (uncut work pairs) (records_from 0 es bytes))

    go : (k : Checked) → tried lines ≡ k → said ≡ decided k (batch_with 0 answers) (λ number. batch_with number []) → SmallBatch said (length es)
    go Passed z e = record {
      answers = answers;
      placed = ap (λ (b : ℕ × List (Says ℕ)). b.1) e;
      small = each-small answers each;
      within = omega (arith, count);
      few = omega (arith, count, (listed es (length bytes) (unmet lines z).0).few);
    }
    go (Refused number) z e = record {
      answers = [];
      placed = ap (λ (b : ℕ × List (Says ℕ)). b.1) e;
      small = each-small [] tt;
      within = omega arith;
      few = omega arith;
    }
