-- The breaks of a stretch are those of a record by itself, moved to the stretch's first place (breaks-moved); a record without separators has the published
-- breaks (breaks-unmarked); there are fewer breaks than letters (separated-breaks-few).
use Rattle.std.specs.Prelude.{◌≡◌, refl, Bool, true, false, List, [], ◌∷◌, ◌++◌, map, ℕ, zero, suc, ◌+◌, ◌≤◌, length, drop}
use Rattle.std.proofs.Common.{ap, ◌∙◌, append-nil, arith, length-append}
use Rattle.std.proofs.lemmas.List.{length-map}
use Rattle.words.specs.Words.{InverseLyndon}
use Rattle.words.specs.Factorizations.{icfl_breaks, first_break, breaks_within, breaks_from, prefix_length}
use Rattle.theory.specs.Statements.{kept_places, place_if_kept}
use Rattle.words.specs.declared.Fate.{Fate}
use Rattle.words.specs.declared.Fate.TheVariants.{Kept, Joined}
use Rattle.words.specs.declared.Break.{Break}
use Rattle.theory.specs.Orders.Decisions.{Decides, holds, fails}
use Rattle.theory.specs.Lyndon.WordTests.{inverse-lyndon-test}
use Rattle.theory.specs.Breaks.IcflBreaks.{icfl-breaks}
use Rattle.words.specs.Separated.{separator, Unmarked, stretches, breaks_over, separated_breaks}
use Rattle.theory.specs.SeparatedStatements.{moved}
use Rattle.theory.specs.Stretches.Separation.{Separation, whole, split, separation, stretches-whole, stretches-split}

abbrev pub later : ℕ → List ℕ → List ℕ
later i es = map (λ e. i + e) es

-- ---- breaks at another place

first-moved : (i j : ℕ) (w : List ℕ) → first_break (i + j) w ≡ moved i (first_break j w)
first-moved i j w =
    let z : i + j + prefix_length w ≡ i + (j + prefix_length w) = omega arith in
    ap (λ (k : ℕ). let b : Break = record { place = k; begun = i + j; border = (first_break j w).border; fate = (first_break j w).fate } in b) z

within-moved : (k i j : ℕ) (w : List ℕ) → breaks_within k (i + j) w ≡ map (moved i) (breaks_within k j w)
unfolding breaks_within
within-moved zero i j w = refl
within-moved (suc k) i j [] = refl
within-moved (suc k) i j (a ∷ w) = go (inverse-lyndon-test (a ∷ w)) (λ l v. within-moved k i l v)
  where
    p : ℕ
    p = prefix_length (a ∷ w)

    go : {t : Bool} → Decides (InverseLyndon (a ∷ w)) t → ((l : ℕ) (v : List ℕ) → breaks_within k (i + l) v ≡ map (moved i) (breaks_within k l v))
        → ◌≡◌ {A = List Break} (elim t [ true ↦ [] | false ↦ first_break (i + j) (a ∷ w) ∷ breaks_within k (i + j + p) (drop p (a ∷ w)) ])
        (map (moved i) (elim t [ true ↦ [] | false ↦ first_break j (a ∷ w) ∷ breaks_within k (j + p) (drop p (a ∷ w)) ]))
    go (holds h) next = refl
    go (fails h) next =
        let z : i + j + p ≡ i + (j + p) = omega arith in
        let rest : breaks_within k (i + j + p) (drop p (a ∷ w)) ≡ map (moved i) (breaks_within k (j + p) (drop p (a ∷ w))) = rw z (next (j + p) (drop p (a ∷ w))) in
        cc (first-moved i j (a ∷ w), rest)

-- the breaks of a stretch are those of a record by itself, in other places
pub breaks-moved : (i : ℕ) (v : List ℕ) → breaks_from i v ≡ map (moved i) (icfl_breaks v)
unfolding icfl_breaks breaks_from
breaks-moved i v = ap (λ (j : ℕ). breaks_within (length v) j v) (let z : i ≡ i + 0 = omega arith in z) ∙ within-moved (length v) i 0 v

pub kept-moved : (i : ℕ) (bs : List Break) → kept_places (map (moved i) bs) ≡ later i (kept_places bs)
unfolding kept_places
kept-moved i [] = refl
kept-moved i (b ∷ bs) = go b.fate (kept-moved i bs)
  where
    go : (f : Fate) → kept_places (map (moved i) bs) ≡ later i (kept_places bs)
        → place_if_kept f (i + b.place) (kept_places (map (moved i) bs)) ≡ later i (place_if_kept f b.place (kept_places bs))
    go (Kept x y) e = ap (λ (es : List ℕ). (i + b.place) ∷ es) e
    go (Joined s) e = e

-- ---- breaks of stretches

pub breaks-alone : (i : ℕ) (v : List ℕ) → Unmarked v → breaks_over i (stretches v) ≡ breaks_from i v
unfolding breaks_over
breaks-alone i v u = rw (stretches-whole v u) (append-nil (breaks_from i v))

pub breaks-split : (i : ℕ) (v w : List ℕ) → Unmarked v → breaks_over i (stretches (v ++ separator ∷ w)) ≡ breaks_from i v ++ breaks_over (i + length v + 1) (stretches w)
unfolding breaks_over
breaks-split i v w u = rw (stretches-split v w u)

pub breaks-unmarked : (v : List ℕ) → Unmarked v → separated_breaks v ≡ icfl_breaks v
unfolding separated_breaks icfl_breaks
breaks-unmarked v u = breaks-alone 0 v u

-- ---- their number

stretch-few : (i : ℕ) (v : List ℕ) → length (breaks_from i v) ≤ length v
unfolding breaks_from
stretch-few i [] = omega arith
stretch-few i (a ∷ v) =
    let size : length (breaks_from i (a ∷ v)) ≡ length (icfl_breaks (a ∷ v)) = ap length (breaks-moved i (a ∷ v)) ∙ length-map (icfl_breaks (a ∷ v)) (moved i) in
    omega (arith, size, (icfl-breaks (a ∷ v) (omega arith)).few)

few-over : (i : ℕ) {w : List ℕ} → Separation w → length (breaks_over i (stretches w)) ≤ length w
few-over i (whole {v = v} u) = rw (breaks-alone i v u) (stretch-few i v)
few-over i (split {v = v} {w = w} u s) =
    rw (breaks-split i v w u, length-append, length-append) (omega (arith, stretch-few i v, few-over (i + length v + 1) s))

pub separated-breaks-few : (w : List ℕ) → length (separated_breaks w) ≤ length w
unfolding separated_breaks
separated-breaks-few w = few-over 0 (separation w)
