-- THEOREM own-fit, fit-own. A list of pairs is the record's own just where it fits: its ends rise to the record's length, the judge finds no fault at any of them, and
-- each count is the number of strict pieces of its part cut alone. So a loop over the pairs decides it one by one.
use Rattle.std.specs.Prelude.{◌≡◌, refl, List, ◌∷◌, ℕ, zero, suc, length}
use Rattle.std.proofs.Common.{ap, sym, ◌∙◌, arith}
use Rattle.words.specs.Separated.{UpToSeparator, separated_icfl_ends, separated_cfl_in_ends}
use Rattle.words.specs.Pairs.{ends_inside, pairs_from, separated_pairs, ends_of}
use Rattle.theory.specs.Statements.{Adjacent, here, there, Part}
use Rattle.theory.specs.Places.EndsRise.{Rises}
use Rattle.theory.specs.Stretches.Factors.{separated-icfl-ends-rise}
use Rattle.theory.specs.Stretches.RecordPairs.{pairs-ends-from}
use Rattle.theory.proofs.Stretches.RecordPairs.{count-alone}
use Rattle.theory.specs.Judging.Judge.{or_else, first_or, judged_turn, judged_from}
use Rattle.theory.proofs.Judging.JudgeSteps.{ours-judged, judged-ours}
use Rattle.theory.specs.Judging.PairsFit.{PairsFit, done, fit-rise, more}

fit-faultless : {w ps : List ℕ} {i : ℕ} → PairsFit w i ps → judged_from w i (ends_of ps) ≡ 0
unfolding judged_from ends_of
fit-faultless (done z) = refl
fit-faultless (more h j n f) = rw j (fit-faultless f)

-- counts of the parts alone are counts of the strict ends between
fit-counted : {w ps : List ℕ} {i : ℕ} → ((x y : ℕ) → Adjacent x y (i ∷ ends_of ps) → Part (separated_icfl_ends w) x y) → PairsFit w i ps
    → ps ≡ pairs_from i (ends_of ps) (separated_cfl_in_ends w)
unfolding ends_of pairs_from
fit-counted f (done z) = refl
fit-counted {w} f (more {i = i} {e = e} {c = c} {ps = ps} h j n g) =
    ap (λ (x : ℕ). e ∷ x ∷ ps) (n ∙ sym (count-alone w i e (f i e here)))
    ∙ ap (λ (t : List ℕ). e ∷ ends_inside i e (separated_cfl_in_ends w) ∷ t) (fit-counted (λ x y a. f x y (there a)) g)

pub fit-own : (w ps : List ℕ) → UpToSeparator w → PairsFit w 0 ps → ps ≡ separated_pairs w
unfolding separated_pairs
fit-own w ps up f =
    let own : ends_of ps ≡ separated_icfl_ends w = judged-ours w (ends_of ps) up (fit-rise f) (fit-faultless f) in
    fit-counted (λ x y a. rw own at a) f ∙ ap (λ (es : List ℕ). pairs_from 0 es (separated_cfl_in_ends w)) own

-- ---- to the record's own

none_first : (a b : ℕ) → or_else a b ≡ 0 → a ≡ 0
none_first zero b e = refl
none_first (suc a) b e = absurd (omega arith)

none-later : (a b : ℕ) → or_else a b ≡ 0 → b ≡ 0
none-later zero b e = e
none-later (suc a) b e = absurd (omega arith)

pairs-fit : {w : List ℕ} {i : ℕ} {es : List ℕ} → ((x y : ℕ) → Adjacent x y (i ∷ es) → Part (separated_icfl_ends w) x y) → Rises (length w) i es
    → judged_from w i es ≡ 0 → PairsFit w i (pairs_from i es (separated_cfl_in_ends w))
unfolding judged_from pairs_from
pairs-fit f (Rises.done z) j = done z
pairs-fit {w} f (Rises.more {b = i} {e = e} {es = es} h r) j =
    more h
    (ap (λ (t : List ℕ). judged_turn w i e (first_or e t)) (pairs-ends-from e es (separated_cfl_in_ends w)) ∙ none_first (judged_turn w i e (first_or e es)) (judged_from w e es) j)
    (count-alone w i e (f i e here))
    (pairs-fit (λ x y a. f x y (there a)) r (none-later (judged_turn w i e (first_or e es)) (judged_from w e es) j))

pub own-fit : (w ps : List ℕ) → UpToSeparator w → ps ≡ separated_pairs w → PairsFit w 0 ps
unfolding separated_pairs
own-fit w ps up e = rw e (pairs-fit (λ x y a. a) (separated-icfl-ends-rise w) (ours-judged w (separated_icfl_ends w) up refl))
