-- THEOREM demand-3. Demand 3 whole, for every word, over the ends that the cuts write and the sign that the comparison answers (the
-- paper's records have 1 to 4,096 letters; no bound is needed). It rests on icfl-dominated, on the theorems of cfl_in, and on one fact: the
-- suffix at a boundary of icfl comes no later than any earlier suffix (icfl-first).
use Rattle.std.specs.Prelude.{◌≡◌, ℕ, ◌-◌, ◌≤◌, ◌<◌, length, take, drop}
use Rattle.std.proofs.Common.{ap, arith}
use mathlib.Core.List.{List, [], ◌++◌, Memᴰ}
use Rattle.std.proofs.Math.Decide.{dec_lt}
use Rattle.std.proofs.Math.Seq.{slice}
use Rattle.buffers.proofs.PartLaws.{drop-to}
use Rattle.words.specs.Words.{◌≪◌, ◌⊑◌, InverseLyndon}
use Rattle.words.specs.Factorizations.{icfl, cfl_in, icfl_ends, cfl_in_ends}
use Rattle.theory.specs.Statements.{DominatedBy, Part, Demand3}
use Rattle.theory.specs.Orders.PrefixLaws.{⊑_trans, ⊑-both, ⊑-drop, take-⊑-take}
use Rattle.theory.specs.Orders.MismatchLaws.{≪-append}
use Rattle.theory.specs.Orders.LexLaws.{◌≤ₗ◌, lost, pre}
use Rattle.theory.specs.Orders.InverseLaws.{◌≼◌, ≼-not-≪, ≼-antisym}
use Rattle.theory.specs.Lyndon.WordTests.{suffix-below}
use Rattle.theory.specs.Lyndon.Suffixes.{dominated-at}
use Rattle.theory.proofs.Lyndon.AntiLyndonLaws.{equal-or-after-≼}
use Rattle.theory.specs.Places.FirstSuffixes.{FirstSuffix, Boundary, boundary-first, boundary-inside, dominated-led}
use Rattle.theory.specs.Places.Ends.{start-boundary, ends-boundary, boundary-ends, adjacent-left, adjacent-right}
use Rattle.theory.specs.Places.EndsRise.{icfl-ends-rise}
use Rattle.theory.proofs.Places.EndsRise.{cfl-in-ends-rise}
use Rattle.theory.specs.Places.Parts.{rises-above, rises-adjacent, part-word, parts-linked}
use Rattle.theory.specs.Places.Ranges.{range-suffix, compatible}
use Rattle.theory.specs.Icfl.IcflConcat.{icfl-concat}
use Rattle.theory.specs.Icfl.IcflDominated.{icfl-dominated}
use Rattle.theory.proofs.CflIn.CflInIs.{cfl-in-is}
use Rattle.theory.proofs.CflIn.CflInFirst.{cfl-in-boundary-first, first-cfl-in-boundary}

module _ (w : List ℕ) where
  pub icfl-first : (e : ℕ) → Boundary e (icfl w) → FirstSuffix e w
  icfl-first e b = rw (icfl-concat w) at (boundary-first (dominated-led (icfl-dominated w)) b)

  pub icfl-inside : (e : ℕ) → Boundary e (icfl w) → e ≤ length w
  icfl-inside e b = rw (icfl-concat w) at (boundary-inside b)

  -- ---- factors by their places

  factor : (i j : ℕ) → Part (icfl_ends w) i j → InverseLyndon (slice i j w)
  unfolding icfl_ends
  factor i j x = rw (icfl-concat w) at (part-word [] (icfl w) (icfl-dominated w) x)

  factor-below : (i j k : ℕ) → Part (icfl_ends w) i j → Part (icfl_ends w) j k → slice i j w ≪ slice j k w
  unfolding icfl_ends
  factor-below i j k x y =
      let d : DominatedBy (slice i j w) (slice j k w) = rw (icfl-concat w) at (parts-linked [] (icfl w) (icfl-dominated w) (icfl-ends-rise w) x y) in
      dominated-at {m = slice i j w} d 0 (factor i j x).nonempty

  -- ---- ends

  end-strict : (e : ℕ) → Memᴰ e (icfl_ends w) → Memᴰ e (cfl_in_ends w)
  unfolding icfl_ends cfl_in_ends
  end-strict e m =
      let b : Boundary e (icfl w) = ends-boundary (icfl w) m in
      boundary-ends (rises-above (icfl-ends-rise w) m) (first-cfl-in-boundary w e (icfl-inside e b) (icfl-first e b))

  -- ---- strict pieces in one piece

  -- a place of the factor from a to b whose suffix comes first: what is left of the factor from there on begins the factor
  first-begins : (a b e : ℕ) → InverseLyndon (slice a b w) → a ≤ e → e ≤ b → b ≤ length w → FirstSuffix e w → slice e b w ⊑ slice a b w
  first-begins a b e k l m h f = rw (drop-to a e (take b w) (omega arith)) at (go (suffix-below k (e - a)))
    where
      go : drop (e - a) (slice a b w) ≤ₗ slice a b w → drop (e - a) (slice a b w) ⊑ slice a b w
      go (pre x) = x
      go (lost x) =
          let z : a - a ≡ 0 = omega arith in
          let at-e : drop e w ≡ drop (e - a) (slice a b w) ++ drop b w = range-suffix w a b (omega arith) h e l m in
          let at_a : drop a w ≡ slice a b w ++ drop b w = rw z at (range-suffix w a b (omega arith) h a (omega arith) (omega arith)) in
          absurd (≼-not-≪ (f a l) (rw (at-e, at_a) (≪-append (drop b w) (drop b w) x)))

  nested : (a b i j k : ℕ) → Part (icfl_ends w) a b → Part (cfl_in_ends w) i j → Part (cfl_in_ends w) j k → a ≤ i → k ≤ b → slice j k w ⊑ slice i j w
  unfolding icfl_ends cfl_in_ends
  nested a b i j k x y z l h = go (dec_lt (length (slice i j w)) (length (slice j k w)))
    where
      after : slice j k w ≼ slice i j w
      after = equal-or-after-≼ (rw (cfl-in-is w).product at (parts-linked [] (cfl_in w) (cfl-in-is w).words (cfl-in-ends-rise w) y z))

      i-before-j : i < j
      i-before-j = (rises-adjacent (cfl-in-ends-rise w) y).1

      j-before-k : j < k
      j-before-k = (rises-adjacent (cfl-in-ends-rise w) z).1

      inside : b ≤ length w
      inside = icfl-inside b (start-boundary (icfl w) (adjacent-right x))

      -- a strict piece of the factor begins the factor
      begins : (s e : ℕ) → Boundary s (cfl_in w) → a ≤ s → s ≤ e → e ≤ b → slice s e w ⊑ slice a b w
      begins s e c m n o =
          ⊑_trans (⊑-drop s (take-⊑-take e b w o)) (first-begins a b s (factor a b x) m (omega arith) inside (cfl-in-boundary-first w s c))

      first : slice i j w ⊑ slice a b w
      first = begins i j (start-boundary (cfl_in w) (adjacent-left y)) l (omega (arith, i-before-j)) (omega (arith, j-before-k, h))

      second : slice j k w ⊑ slice a b w
      second = begins j k (start-boundary (cfl_in w) (adjacent-right y)) (omega (arith, i-before-j)) (omega (arith, j-before-k)) h

      go : Dec (length (slice i j w) < length (slice j k w)) → slice j k w ⊑ slice i j w
      go (no m) = ⊑-both second first (omega arith)
      go (yes m) = absurd (omega (arith, ap length (≼-antisym after (◌≼◌.pre (⊑-both first second (omega arith))))))

  pub demand-3 : Demand3 w
  unfolding icfl_ends
  demand-3 = record {
    compatible = λ first end start other m a b c d e.
        let f : Boundary end (icfl w) = ends-boundary (icfl w) m.1 in
        compatible w first end start other (icfl-first end f) (icfl-inside end f) a b c d e;
    exceeds = λ i j x. (factor i j x).exceeds;
    loses = factor-below;
    strict = end-strict;
    nested = nested;
  }
