-- THEOREM pairs-are. What request 108 says of the pairs of a record is true of separated_pairs: their ends are those of the piece cut (pairs-ends), each count
-- is the number of strict pieces of its piece cut alone (count-alone), 1 for a mark, at least 1 and at most the piece's length (pairs-paired), and all add up
-- to the number of strict pieces (pairs-sum). That every piece ends where a strict piece ends (pieces-strict) is what it rests on.
use Rattle.std.specs.Prelude.{◌≡◌, refl, ◌⊎◌, ℕ, ◌+◌, ◌*◌, length}
use Rattle.std.proofs.Common.{ap, sym, ◌∙◌, inl, inr, arith, le_refl}
use mathlib.Core.List.{List, [], ◌∷◌, sum, Memᴰ}
use Rattle.std.proofs.Math.Seq.{slice}
use Rattle.theory.specs.Statements.{Adjacent, Part}
use Rattle.words.specs.Separated.{mark, separated_icfl, separated_cfl_in, separated_icfl_ends, separated_cfl_in_ends}
use Rattle.words.specs.Pairs.{ends_inside, pairs_from, separated_pairs, ends_of, counts_of}
use Rattle.theory.specs.PairStatements.{Pair, PairsOf}
use Rattle.theory.specs.Places.FirstSuffixes.{Boundary}
use Rattle.theory.specs.Places.Ends.{start-boundary, adjacent-left, adjacent-right}
use Rattle.theory.specs.Places.EndsRise.{Rises, rises-most}
use Rattle.theory.specs.Places.Parts.{rises-adjacent}
use Rattle.theory.specs.Places.PairedLists.{Paired, done, more, pair-cases, pair-none, pair-bounds}
use Rattle.theory.specs.Stretches.Separation.{separation}
use Rattle.theory.specs.Stretches.Factors.{separated-icfl-ends-rise}
use Rattle.theory.proofs.Stretches.Factors.{separated-cfl-in-ends-rise}
use Rattle.theory.specs.Stretches.CflInSteps.{separated-cfl-in-empty, separated-cfl-in-separator}
use Rattle.theory.proofs.Stretches.SeparatedDemand3.{pieces-strict, boundary-strict}
use Rattle.theory.specs.Stretches.StrictInside.{inside-split, inside-none, inside-some, inside-all, inside-few, ends-number}
use Rattle.theory.proofs.Stretches.StrictInside.{strict-inside}
use Rattle.theory.specs.Stretches.RecordPairs.{pairs-ends-from, pairs-number}

pairs-sum-from : {n b : ℕ} {es : List ℕ} → Rises n b es → (ss : List ℕ) → sum ◌+◌ 0 (counts_of (pairs_from b es ss)) ≡ ends_inside b n ss
unfolding pairs_from counts_of sum
pairs-sum-from {n} (Rises.done {b = b} z) ss = rw z (sym (inside-none n ss))
pairs-sum-from {n} (Rises.more {b = b} {e = e} {es = es} h r) ss =
    ap (λ (t : ℕ). ends_inside b e ss + t) (pairs-sum-from r ss) ∙ sym (inside-split b e n (omega arith) (rises-most r) ss)

pairs-paired-from : {n m b : ℕ} {es ss : List ℕ} → Rises n b es → Rises m 0 ss → ((e : ℕ) → Memᴰ e es → Memᴰ e ss) → Paired n b (pairs_from b es ss)
unfolding pairs_from
pairs-paired-from (Rises.done z) s f = done z
pairs-paired-from {ss = ss} (Rises.more {b = b} {e = e} h r) s f =
    more h (inside-some b e ss (f e (Memᴰ.head refl)) h (le_refl e)) (inside-few s b e) (pairs-paired-from r s (λ x m. f x (Memᴰ.tail m)))

-- each pair is of two neighbouring ends, and counts what lies between them
pair-from : {i j c : ℕ} (b : ℕ) (es ss : List ℕ) → Pair i j c b (pairs_from b es ss) → Adjacent i j (b ∷ es) × (c ≡ ends_inside i j ss)
unfolding pairs_from
pair-from b [] ss x = absurd (pair-none x)
pair-from {i} {j} {c} b (e ∷ es) ss x = go (λ y. pair-from e es ss y) (pair-cases x)
  where
    go : (Pair i j c e (pairs_from e es ss) → Adjacent i j (e ∷ es) × (c ≡ ends_inside i j ss))
        → ((i ≡ b) × (j ≡ e) × (c ≡ ends_inside b e ss)) ⊎ Pair i j c e (pairs_from e es ss) → Adjacent i j (b ∷ e ∷ es) × (c ≡ ends_inside i j ss)
    go next (inl z) = rw (z.0, z.1) (Adjacent.here, z.2)
    go next (inr y) = let h = next y in (Adjacent.there h.0, h.1)

-- ---- of a record

strict-number : (v : List ℕ) → length (separated_cfl_in_ends v) ≡ length (separated_cfl_in v)
unfolding separated_cfl_in_ends
strict-number v = ends-number 0 (separated_cfl_in v)

mark-number : length (separated_cfl_in_ends mark) ≡ 1
mark-number =
    strict-number mark ∙ ap length (separated-cfl-in-separator [] ∙ ap (λ (t : List (List ℕ)). mark ∷ t) separated-cfl-in-empty)

module _ (w : List ℕ) where
  pub pairs-ends : ends_of (separated_pairs w) ≡ separated_icfl_ends w
  unfolding separated_pairs
  pairs-ends = pairs-ends-from 0 (separated_icfl_ends w) (separated_cfl_in_ends w)

  pub pairs-entries : length (separated_pairs w) ≡ 2 * length (separated_icfl_ends w)
  unfolding separated_pairs
  pairs-entries = pairs-number 0 (separated_icfl_ends w) (separated_cfl_in_ends w)

  pub pairs-sum : sum ◌+◌ 0 (counts_of (separated_pairs w)) ≡ length (separated_cfl_in_ends w)
  unfolding separated_pairs
  pairs-sum =
      pairs-sum-from (separated-icfl-ends-rise w) (separated_cfl_in_ends w)
      ∙ inside-all (separated-cfl-in-ends-rise w) 0 (length w) (le_refl 0) (le_refl (length w))

  pub pairs-paired : Paired (length w) 0 (separated_pairs w)
  unfolding separated_pairs
  pairs-paired = pairs-paired-from (separated-icfl-ends-rise w) (separated-cfl-in-ends-rise w) (pieces-strict w)

  part-strict : (i : ℕ) → Memᴰ i (0 ∷ separated_icfl_ends w) → Boundary i (separated_cfl_in w)
  unfolding separated_icfl_ends
  part-strict i m = boundary-strict (separation w) i (start-boundary (separated_icfl w) m)

  -- a piece has as many strict pieces inside as when it is cut alone
  pub count-alone : (i j : ℕ) → Part (separated_icfl_ends w) i j → ends_inside i j (separated_cfl_in_ends w) ≡ length (separated_cfl_in_ends (slice i j w))
  count-alone i j x =
      strict-inside w i j (part-strict i (adjacent-left x)) (part-strict j (adjacent-right x))
      (omega (arith, (rises-adjacent (separated-icfl-ends-rise w) x).1)) ∙ sym (strict-number (slice i j w))

  pair_inside : (i j c : ℕ) → Pair i j c 0 (separated_pairs w) → c ≡ length (separated_cfl_in_ends (slice i j w))
  unfolding separated_pairs
  pair_inside i j c x = let h = pair-from 0 (separated_icfl_ends w) (separated_cfl_in_ends w) x in h.1 ∙ count-alone i j h.0

  pub pairs-are : PairsOf w (separated_pairs w)
  pairs-are = record {
    ends = pairs-ends;
    inside = pair_inside;
    total = pairs-sum;
    bounds = λ i j c x. pair-bounds pairs-paired x;
    marks = λ i j c x e. pair_inside i j c x ∙ rw e mark-number;
  }
