-- THEOREMS latest-longest, summary-latest: the longest part and its place by the summary's definitions, and so of every result of the summary, are what
-- request 101 says (LatestLongest). No other two numbers are so (latest-only).
use mathlib.Core.Path.{◌≡◌, refl, ap, sym}
use mathlib.Core.Logic.{⊎_elim}
use mathlib.Core.List.{List, [], ◌∷◌, ◌++◌}
use Prim.Native.Nat.{ℕ, ◌+◌, ◌-◌, ◌≤◌, ◌<◌}
use native.Mathlib.Decide.{ℕ_discrete}
use native.Mathlib.Omega.{arith}
use lib.ListN.{length}
use Rattle.theory.specs.Orders.Decisions.{neither-less}
use Rattle.words.specs.Pairs.{ends_of}
use Rattle.theory.specs.Statements.{Adjacent, here, there}
use Rattle.theory.specs.Places.Ends.{adjacent-cases, adjacent-one}
use Rattle.theory.specs.Places.EndsRise.{Rises, done, more}
use Rattle.theory.specs.Places.Parts.{rises-adjacent}
use Rattle.checks.specs.Lines.{Line, Accepted, tried, decided, Checked, Passed, Refused}
use Rattle.checks.specs.Answers.{gives, refuses, checked, values_or}
use Rattle.checks.proofs.LineLaws.{not-both}
use Rattle.summary.specs.declared.Summary.{Summary}
use Rattle.summary.specs.Summary.{summary_lines, lengths_from, greatest, start_of, count_of, summary_of, no_summary, Summarized}
use Rattle.summary.specs.SummaryStatements.{LatestLongest}
use Rattle.summary.proofs.EndsAdmitted.{EndsAccepted, all-admitted}
use Rattle.summary.proofs.SummaryLaws.{start-here, start-later, count-here, count-other, count-more, count-greatest}

pub latest-only : {es : List ℕ} {m n f g : ℕ} → LatestLongest es m f → LatestLongest es n g → (m ≡ n) × (f ≡ g)
latest-only {es} {m} {n} {f} {g} x y =
    let same : m ≡ n = omega (arith, x.most g (g + n) y.begins, y.most f (f + m) x.begins) in
    (same, neither-less (λ l. x.latest g (g + n) y.begins l (omega arith)) (λ l. y.latest f (f + m) x.begins l (omega arith)))

-- ---- the parts, one by one

greatest-most : (es : List ℕ) {a i j : ℕ} → Adjacent i j (a ∷ es) → j - i ≤ greatest (lengths_from a es)
unfolding lengths_from greatest
greatest-most [] p = absurd (adjacent-one p)
greatest-most (e ∷ es) {a} {i} {j} p =
    ⊎_elim (λ q. omega (arith, q.0, q.1)) (λ q. omega (arith, greatest-most es q)) (adjacent-cases p)

greatest-some : {n a : ℕ} {es : List ℕ} → Rises n a es → 0 < length es → 0 < greatest (lengths_from a es)
unfolding lengths_from greatest
greatest-some (done z) l = absurd (omega arith)
greatest-some (more h r) l = omega arith

-- a part of length n is counted
part-counted : (n : ℕ) (es : List ℕ) {a i j : ℕ} → Adjacent i j (a ∷ es) → j - i ≡ n → 0 < count_of n (lengths_from a es)
unfolding lengths_from
part-counted n [] p z = absurd (adjacent-one p)
part-counted n (e ∷ es) {a} {i} {j} p z =
    ⊎_elim
    (λ q. omega (arith, count-here n (e - a) (lengths_from e es) (omega (arith, q.0, q.1))))
    (λ q. omega (arith, count-more n (e - a) (lengths_from e es), part-counted n es q z))
    (adjacent-cases p)

-- ---- the place

-- the parts lie between neighbouring places
record LatestOf (n from : ℕ) (places : List ℕ) : Type 0 where
  begins : Adjacent from (from + n) places
  latest : (i j : ℕ) → Adjacent i j places → from < i → ¬ (j - i ≡ n)

module _ (n : ℕ) {a e : ℕ} {es : List ℕ} where
  -- the first part is the last of length n
  latest-here : a < e → e - a ≡ n → count_of n (lengths_from e es) ≡ 0 → LatestOf n a (a ∷ e ∷ es)
  latest-here l z c = record {
    begins = rw (let y : a + n ≡ e = omega arith in y) here;
    latest = λ i j p f y. ⊎_elim (λ q. omega (arith, q.0)) (λ q. omega (arith, part-counted n es q y)) (adjacent-cases p);
  }

  latest-there : {m from : ℕ} → a < e → Rises m e es → LatestOf n from (e ∷ es) → LatestOf n from (a ∷ e ∷ es)
  latest-there {from = from} l r x = record {
    begins = there x.begins;
    latest = λ i j p f y. ⊎_elim (λ q. omega (arith, q.0, (rises-adjacent r x.begins).0)) (λ q. x.latest i j q f y) (adjacent-cases p);
  }

start-latest : (n : ℕ) {m a : ℕ} {es : List ℕ} → Rises m a es → 0 < count_of n (lengths_from a es) → LatestOf n (start_of n a es) (a ∷ es)
unfolding lengths_from count_of
start-latest n (done z) h = absurd (omega arith)
start-latest n (more {b = a} {e = e} {es = es} l r) h = go (ℕ_discrete (e - a) n) (ℕ_discrete (count_of n (lengths_from e es)) 0) (start-latest n r)
  where
    go : Dec (e - a ≡ n) → Dec (count_of n (lengths_from e es) ≡ 0) → (0 < count_of n (lengths_from e es) → LatestOf n (start_of n e es) (e ∷ es))
        → LatestOf n (start_of n a (e ∷ es)) (a ∷ e ∷ es)
    go (yes y) (yes c) ih = rw (start-here n a e es (y, c)) (latest-here n l y c)
    go (yes y) (no c) ih = rw (start-later n a e es (λ q. c q.1)) (latest-there n l r (ih (omega arith)))
    go (no y) d ih = rw (start-later n a e es (λ q. y q.0)) (latest-there n l r (ih (omega (arith, h, count-other n (e - a) (lengths_from e es) y))))

pub latest-longest : {n : ℕ} {es : List ℕ} → Rises n 0 es → 0 < length es
    → let longest = greatest (lengths_from 0 es) in LatestLongest es longest (start_of longest 0 es)
latest-longest {es = es} r l =
    let x = start-latest (greatest (lengths_from 0 es)) r (count-greatest _ (lengths_from 0 es) refl (greatest-some r l)) in
    record { begins = x.begins; most = λ i j p. greatest-most es p; latest = x.latest }

pub summary-latest : {door : List Line} {w ps : List ℕ} {s : Summary} → (tried door ≡ Passed → Accepted w) → Summarized door w ps (gives s)
    → LatestLongest (ends_of ps) s.longest s.from
unfolding summary_of
summary-latest {door} {w} {ps} {s} g x = go (tried (door ++ summary_lines w ps)) (all-admitted door w ps g) x.answer
  where
    es : List ℕ
    es = ends_of ps

    go : (k : Checked) → (k ≡ Passed → EndsAccepted w es) → gives s ≡ decided k (gives (summary_of es)) refuses → LatestLongest es s.longest s.from
    go Passed g e = rw (ap (values_or no_summary) e) (latest-longest (g refl).rises (g refl).some)
    go (Refused number) g e = absurd (not-both refl (sym (ap checked e)))
