-- "the counts add up to the number of pieces": bands-sum, for a list of ends, and summary-bands-sum, for every answer of the summary.
use mathlib.Core.Path.{◌≡◌, refl, ap, ◌∙◌}
use mathlib.Core.List.{List, [], ◌∷◌, ◌++◌, sum}
use Prim.Native.Nat.{ℕ, zero, suc, ◌+◌, ◌-◌, ◌≤◌, ◌<◌}
use native.Mathlib.Nat.{zero-add}
use native.Mathlib.Decide.{ℕ_discrete}
use native.Mathlib.Omega.{arith}
use lib.ListN.{length}
use Rattle.words.specs.Words.{most_letters}
use Rattle.words.specs.Pairs.{ends_of}
use Rattle.theory.specs.Places.EndsRise.{Rises, done, more}
use Rattle.theory.specs.Places.EndsRise.{rises-few}
use Rattle.checks.specs.Lines.{Line, Accepted, tried, decided, Checked, Passed, Refused}
use Rattle.checks.specs.Answers.{Says, gives, refuses, values_or}
use Rattle.summary.specs.declared.Summary.{Summary}
use Rattle.summary.specs.Summary.{summary_lines, lengths_from, bit_length_of, count_of, bands_of, summary_of, no_summary, Summarized}
use Rattle.summary.proofs.EndsAdmitted.{EndsAccepted, all-admitted}
use Rattle.summary.proofs.BitLengths.{bit-length-most, bit-length-some}
use Rattle.summary.specs.Tallies.{bands_from}
use Rattle.summary.proofs.SummaryLaws.{counts_from, count-here, count-other, bands-are-counts}

counts-none : (b k : ℕ) → sum ◌+◌ 0 (counts_from b k []) ≡ 0
unfolding sum count_of
counts-none zero k = refl
counts-none (suc b) k = zero-add (sum ◌+◌ 0 (counts_from b (suc k) [])) ∙ counts-none b (suc k)

-- a number below the counted ones adds nothing, one among them adds one
counts-below : (b k n : ℕ) (ns : List ℕ) → n < k → sum ◌+◌ 0 (counts_from b k (n ∷ ns)) ≡ sum ◌+◌ 0 (counts_from b k ns)
unfolding sum
counts-below zero k n ns h = refl
counts-below (suc b) k n ns h =
    let ih = counts-below b (suc k) n ns (omega arith) in
    let c = count-other k n ns (λ e. omega arith) in
    omega arith

counts-among : (b k n : ℕ) (ns : List ℕ) → k ≤ n → n < k + b → sum ◌+◌ 0 (counts_from b k (n ∷ ns)) ≡ suc (sum ◌+◌ 0 (counts_from b k ns))
unfolding sum
counts-among zero k n ns l h = absurd (omega arith)
counts-among (suc b) k n ns l h = go (ℕ_discrete n k) (λ m. counts-among b (suc k) n ns m (omega arith))
  where
    go : Dec (n ≡ k) → (k < n → sum ◌+◌ 0 (counts_from b (suc k) (n ∷ ns)) ≡ suc (sum ◌+◌ 0 (counts_from b (suc k) ns)))
        → count_of k (n ∷ ns) + sum ◌+◌ 0 (counts_from b (suc k) (n ∷ ns)) ≡ suc (count_of k ns + sum ◌+◌ 0 (counts_from b (suc k) ns))
    go (yes e) ih = omega (arith, count-here k n ns e, counts-below b (suc k) n ns (omega arith))
    go (no e) ih = omega (arith, count-other k n ns e, ih (omega arith))

bands-sum-from : {n a : ℕ} {es : List ℕ} → Rises n a es → n ≤ most_letters → sum ◌+◌ 0 (counts_from 13 1 (bands_from a es)) ≡ length es
unfolding lengths_from
bands-sum-from (done e) l = counts-none 13 1
bands-sum-from (more {b = a} {e = e} {es = es} h r) l =
    let m = rises-few r in
    counts-among 13 1 (bit_length_of (e - a)) (bands_from e es) (bit-length-some (e - a) (omega arith)) (omega (arith, bit-length-most (e - a) (omega arith)))
    ∙ ap suc (bands-sum-from r l)

pub bands-sum : (n : ℕ) (es : List ℕ) → Rises n 0 es → n ≤ most_letters → sum ◌+◌ 0 (bands_of es) ≡ length es
bands-sum n es r l = rw (bands-are-counts es) (bands-sum-from r l)

-- beside a refusal all are 0
pub summary-bands-sum : {door : List Line} {w ps : List ℕ} {said : Says Summary} → (tried door ≡ Passed → Accepted w) → Summarized door w ps said
    → let s = values_or no_summary said in sum ◌+◌ 0 s.bands ≡ s.count
unfolding sum summary_of
summary-bands-sum {door} {w} {ps} g s = rw s.answer (go (tried (door ++ summary_lines w ps)) (all-admitted door w ps g))
  where
    es : List ℕ
    es = ends_of ps

    go : (k : Checked) → (k ≡ Passed → EndsAccepted w es)
        → (let s = values_or no_summary (decided k (gives (summary_of es)) refuses) in sum ◌+◌ 0 s.bands ≡ s.count)
    go Passed g = bands-sum (length w) es (g refl).rises (g refl).letters
    go (Refused e) g = refl
