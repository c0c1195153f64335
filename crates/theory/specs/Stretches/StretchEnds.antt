-- THEOREM separated-icfl-ends, separated-cfl-in-ends, separated-kept-ends. The ends of a record are those of its stretches, each moved by the stretch's first place,
-- and the ends of its separators; of the piece cut they are, stretch by stretch, the places of the kept breaks and the stretch's end.
use Rattle.std.specs.Prelude.{◌≡◌, refl, ℕ, ◌+◌}
use Rattle.std.proofs.Common.{ap, sym, ◌∙◌, arith, length-append}
use mathlib.Core.List.{List, [], ◌∷◌, ◌++◌, map, map-append, flatten}
use Rattle.std.proofs.Math.ListN.{length}
use Rattle.words.specs.Factorizations.{icfl, icfl_ends, icfl_breaks, breaks_from, cfl_in, cfl_in_ends, ends_from}
use Rattle.theory.specs.Statements.{kept_places}
use Rattle.theory.specs.Icfl.IcflConcat.{icfl-concat}
use Rattle.theory.specs.Breaks.IcflBreaks.{icfl-breaks}
use Rattle.words.specs.Separated.{mark, stretches, between, separated_icfl, separated_icfl_ends}
use Rattle.theory.specs.SeparatedStatements.{stretch_end, ends_over, kept_ends_of}
use Rattle.theory.specs.Stretches.StretchBreaks.{later, breaks-moved, kept-moved}
use Rattle.theory.specs.Stretches.Separation.{Separation, whole, split, separation, stretches-whole, stretches-split, between-whole, between_split}

-- ---- ends of any list of words

pub ends-append : (i : ℕ) (ms ns : List (List ℕ)) → ends_from i (ms ++ ns) ≡ ends_from i ms ++ ends_from (i + length (flatten ms)) ns
unfolding ends_from flatten
ends-append i [] ns = rw (let z : i + 0 ≡ i = omega arith in z)
ends-append i (m ∷ ms) ns =
    let z : i + length (m ++ flatten ms) ≡ i + length m + length (flatten ms) = rw length-append (omega arith) in
    rw (z, ends-append (i + length m) ms ns)

pub ends-moved : (i j : ℕ) (ms : List (List ℕ)) → ends_from (i + j) ms ≡ later i (ends_from j ms)
unfolding ends_from
ends-moved i j [] = refl
ends-moved i j (m ∷ ms) =
    let z : i + j + length m ≡ i + (j + length m) = omega arith in
    rw (z, ends-moved i (j + length m) ms)

pub ends-later : (i : ℕ) (ms : List (List ℕ)) → ends_from i ms ≡ later i (ends_from 0 ms)
ends-later i ms = ap (λ (j : ℕ). ends_from j ms) (let z : i ≡ i + 0 = omega arith in z) ∙ ends-moved i 0 ms

-- ---- a stretch at place i

pub icfl-ends-later : (i : ℕ) (v : List ℕ) → ends_from i (icfl v) ≡ later i (icfl_ends v)
unfolding icfl_ends
icfl-ends-later i v = ends-later i (icfl v)

pub cfl-in-ends-later : (i : ℕ) (v : List ℕ) → ends_from i (cfl_in v) ≡ later i (cfl_in_ends v)
unfolding cfl_in_ends
cfl-in-ends-later i v = ends-later i (cfl_in v)

pub kept-ends : (i : ℕ) (v : List ℕ) → ends_from i (icfl v) ≡ kept_ends_of i v
unfolding icfl ends_from breaks_from kept_places stretch_end
kept-ends i [] = refl
kept-ends i (a ∷ v) =
    icfl-ends-later i (a ∷ v)
    ∙ (ap (later i) (sym (icfl-breaks (a ∷ v) (omega arith)).ends)
    ∙ (map-append _ (kept_places (icfl_breaks (a ∷ v))) (length (a ∷ v) ∷ [])
    ∙ ap (λ (es : List ℕ). es ++ (i + length (a ∷ v)) ∷ []) (sym (ap kept_places (breaks-moved i (a ∷ v)) ∙ kept-moved i (icfl_breaks (a ∷ v))))))

-- ---- all stretches

module _ (f : List ℕ → List (List ℕ)) (product : (v : List ℕ) → flatten (f v) ≡ v) (es : ℕ → List ℕ → List ℕ)
    (stretch : (i : ℕ) (v : List ℕ) → ends_from i (f v) ≡ es i v) where
  -- a stretch that begins at place i, its separator, and what follows
  ends-split : (i : ℕ) (v : List ℕ) (ns : List (List ℕ)) → ends_from i (f v ++ mark ∷ ns) ≡ es i v ++ (i + length v + 1) ∷ ends_from (i + length v + 1) ns
  unfolding ends_from
  ends-split i v ns = rw (ends-append i (f v) (mark ∷ ns), product v, stretch i v)

  over-next : (i : ℕ) (v : List ℕ) {w : List ℕ} → Separation w
      → ends_over es i (v ∷ stretches w) ≡ es i v ++ (i + length v + 1) ∷ ends_over es (i + length v + 1) (stretches w)
  unfolding ends_over
  over-next i v (whole {v = t} u) = rw (stretches-whole t u)
  over-next i v (split {v = t} {w = w} u s) = rw (stretches-split t w u)

  pub ends-over : (i : ℕ) {w : List ℕ} → Separation w → ends_from i (between mark (map f (stretches w))) ≡ ends_over es i (stretches w)
  unfolding ends_over
  ends-over i (whole {v = v} u) = rw (between-whole mark f v u, stretches-whole v u) (stretch i v)
  ends-over i (split {v = v} {w = w} u s) =
      rw (between_split mark f v w u, stretches-split v w u, ends-split i v _, over-next i v s)
      (ap (λ (ds : List ℕ). es i v ++ (i + length v + 1) ∷ ds) (ends-over (i + length v + 1) s))

pub separated-icfl-ends : (w : List ℕ) → separated_icfl_ends w ≡ ends_over (λ i v. later i (icfl_ends v)) 0 (stretches w)
unfolding separated_icfl_ends separated_icfl
separated-icfl-ends w = ends-over icfl icfl-concat (λ i v. later i (icfl_ends v)) icfl-ends-later 0 (separation w)

pub separated-kept-ends : (w : List ℕ) → separated_icfl_ends w ≡ ends_over kept_ends_of 0 (stretches w)
unfolding separated_icfl_ends separated_icfl
separated-kept-ends w = ends-over icfl icfl-concat kept_ends_of kept-ends 0 (separation w)
