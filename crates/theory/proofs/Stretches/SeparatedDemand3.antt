-- THEOREM separated-demand-3. Demand 3 whole, for every word of letters up to the separator. Only its first sentence, the comparison to the word's end, needs that no
-- letter is above the separator (SeparatedLimits); the others are had without it (pieces-exceed to pieces-nested). That sentence rests on one fact: the suffix at an end of the
-- factorization comes no later than any earlier suffix that no separator divides from it (first-since).
use Rattle.std.specs.Prelude.{◌≡◌, ◌⊎◌, ℕ, zero, suc, ◌+◌, ◌-◌, ◌≤◌, ◌<◌, length, take, drop, get_or}
use Rattle.std.proofs.Common.{ap, inl, inr, arith, drop_of_length-le, drop-drop}
use mathlib.Core.List.{List, [], ◌∷◌, ◌++◌, flatten, Memᴰ}
use Rattle.std.proofs.Math.Decide.{dec_lt}
use Rattle.std.proofs.Math.ListN.{get_or-append, get_or-eq_default}
use Rattle.std.proofs.Math.Seq.{slice, drop-nil, drop-append-add, length-slice}
use Rattle.std.proofs.lemmas.List.{drop-append-le}
use Rattle.words.specs.Words.{◌≪◌, here, ◌⊑◌, ◌<ₗ◌, InverseLyndon, sign}
use Rattle.words.specs.Factorizations.{icfl, icfl_ends, cfl_in, cfl_in_ends, ends_from}
use Rattle.theory.specs.Statements.{DominatedBy, Part, Compatible}
use Rattle.theory.specs.Orders.InverseLaws.{◌≼◌, won, ≼_refl}
use Rattle.theory.specs.Lyndon.Suffixes.{dominated-at}
use Rattle.theory.specs.Icfl.IcflConcat.{icfl-concat}
use Rattle.theory.proofs.CflIn.CflInIs.{cfl-in-is}
use Rattle.theory.proofs.CflIn.CflInFirst.{first-cfl-in-boundary}
use Rattle.theory.specs.Places.FirstSuffixes.{Leads, Boundary, boundary-inside, range-before}
use Rattle.theory.specs.Places.Ends.{ends-boundary, boundary-ends}
use Rattle.theory.specs.Places.Parts.{rises-above, rises-adjacent, part-word, parts-linked}
use Rattle.theory.specs.Places.Ranges.{range-suffix, compatible-led}
use Rattle.theory.proofs.Places.Demand3.{icfl-first, icfl-inside, demand-3}
use Rattle.words.specs.Separated.{separator, mark, Unmarked, UpToSeparator, separated_icfl, separated_cfl_in, separated_icfl_ends, separated_cfl_in_ends}
use Rattle.theory.specs.SeparatedStatements.{UnlessMark, UnmarkedPieces, SeparatedDemand3}
use Rattle.theory.specs.Stretches.Unmarked.{unmarked-head, unmarked-tail, unmarked-drop}
use Rattle.theory.specs.Stretches.Separation.{Separation, whole, split, separation, icfl-unmarked, cfl-in-unmarked, icfl-split, cfl-in-split, separated-icfl-concat}
use Rattle.theory.specs.Stretches.Factors.{separated-icfl-is, inverse-lyndon-factor, separated-icfl-ends-rise}
use Rattle.theory.proofs.Stretches.Factors.{separated-cfl-in-ends-rise}
use Rattle.theory.specs.Stretches.Places.{Spot, before, at, after, spot, letter-after, slice-before, slice-after, slice_over, boundary-split, boundary-before, boundary-after, PartAt, inside, between, beyond, part-split, part-bound, part-inside, part-beyond}

-- ---- letters up to the separator

up-before : (v u : List ℕ) → UpToSeparator (v ++ u) → UpToSeparator v
up-before v u b i = go (dec_lt i (length v))
  where
    go : Dec (i < length v) → get_or v i 0 ≤ separator
    go (yes l) = rw (get_or-append v u 0 i l) at (b i)
    go (no l) = rw (get_or-eq_default v 0 {n = i} (omega arith)) (omega arith)

up-after : (v w : List ℕ) → UpToSeparator (v ++ separator ∷ w) → UpToSeparator w
up-after v w b k = rw (letter-after v w k) at (b (length v + suc k))

-- a separator leads an unmarked word
separator-leads : (v u : List ℕ) → Unmarked v → UpToSeparator v → Leads v (separator ∷ u)
separator-leads [] u n b i = rw (drop-nil {A = ℕ} i) (≼_refl _)
separator-leads (a ∷ v) u n b zero = won (here {a = a} {b = separator} (let z : ¬ (a ≡ separator) = unmarked-head n in omega (arith, b 0)))
separator-leads (a ∷ v) u n b (suc i) = separator-leads v u (unmarked-tail n) (λ k. b (suc k)) i

-- ---- the suffix at an end

first-since : {w : List ℕ} → Separation w → UpToSeparator w → {e : ℕ} → Boundary e (separated_icfl w) → (j : ℕ) → j ≤ e → Unmarked (slice j e w) → drop e w ≼ drop j w
first-since (whole {v = v} u) b {e} c j l n = icfl-first v e (rw (icfl-unmarked v u) at c) j l
first-since (split {v = v} {w = w} u s) b {e} c j l n =
    go (boundary-split (icfl v) (separated_icfl w) (rw (icfl-split v w u) at c)) (λ k d i m o. first-since s (up-after v w b) {e = k} d i m o)
  where
    go : Boundary e (icfl v) ⊎ ((k : ℕ) × (e ≡ length (flatten (icfl v)) + suc k) × Boundary k (separated_icfl w))
        → ((k : ℕ) → Boundary k (separated_icfl w) → (i : ℕ) → i ≤ k → Unmarked (slice i k w) → drop k w ≼ drop i w)
        → drop e (v ++ separator ∷ w) ≼ drop j (v ++ separator ∷ w)
    go (inl d) next =
        let h : e ≤ length v = icfl-inside v e d in
        rw (drop-append-le e v (separator ∷ w) h, drop-append-le j v (separator ∷ w) (omega arith))
        (range-before (separator-leads v w u (up-before v (separator ∷ w) b)) e j (icfl-first v e d j l))
    go (inr q) next = near (spot v j)
      where
        k : ℕ
        k = q.0

        z : e ≡ length v + suc k
        z = rw (icfl-concat v) at q.1

        near : Spot v j → drop e (v ++ separator ∷ w) ≼ drop j (v ++ separator ∷ w)
        near (before m) = absurd (slice_over v w j k (omega arith) (rw z at n))
        near (at m) = absurd (slice_over v w j k (omega arith) (rw z at n))
        near (after i m) =
            rw (z, m, drop-append-add v (separator ∷ w) (suc k), drop-append-add v (separator ∷ w) (suc i))
            (next k q.2 i (omega (arith, z)) (rw (z, m, slice-after v w i k) at n))

module _ (w : List ℕ) where
  end-inside : (e : ℕ) → Boundary e (separated_icfl w) → e ≤ length w
  end-inside e b = rw (separated-icfl-concat w) at (boundary-inside b)

  unmarked-leads : UpToSeparator w → (first end : ℕ) → Boundary end (separated_icfl w) → first ≤ end → Unmarked (slice first end w) → Leads (slice first end w) (drop end w)
  unmarked-leads b first end c l u i = go (dec_lt (end - first) i)
    where
      h : end ≤ length w
      h = end-inside end c

      go : Dec (end - first < i) → drop end w ≼ (drop i (slice first end w) ++ drop end w)
      go (yes m) = rw (drop_of_length-le (slice first end w) {i = i} (rw (length-slice first end w h) (omega arith))) (≼_refl _)
      go (no m) =
          let z : first + i - first ≡ i = omega arith in
          let e : drop (first + i) w ≡ drop i (slice first end w) ++ drop end w = rw z at (range-suffix w first end l h (first + i) (omega arith) (omega arith)) in
          rw (← e) (first-since (separation w) b c (first + i) (omega arith) (rw (drop-drop i first (take end w)) at (unmarked-drop i (slice first end w) u)))

-- ---- ends of strict pieces

pub boundary-strict : {w : List ℕ} → Separation w → (e : ℕ) → Boundary e (separated_icfl w) → Boundary e (separated_cfl_in w)
boundary-strict (whole {v = v} u) e b =
    let c : Boundary e (icfl v) = rw (icfl-unmarked v u) at b in
    rw (cfl-in-unmarked v u) (first-cfl-in-boundary v e (icfl-inside v e c) (icfl-first v e c))
boundary-strict (split {v = v} {w = w} u s) e b =
    rw (cfl-in-split v w u) (go (boundary-split (icfl v) (separated_icfl w) (rw (icfl-split v w u) at b)) (λ k c. boundary-strict s k c))
  where
    go : Boundary e (icfl v) ⊎ ((k : ℕ) × (e ≡ length (flatten (icfl v)) + suc k) × Boundary k (separated_icfl w))
        → ((k : ℕ) → Boundary k (separated_icfl w) → Boundary k (separated_cfl_in w))
        → Boundary e (cfl_in v ++ mark ∷ separated_cfl_in w)
    go (inl c) next = boundary-before (cfl_in v) _ (first-cfl-in-boundary v e (icfl-inside v e c) (icfl-first v e c))
    go (inr q) next =
        let z : e ≡ length (flatten (cfl_in v)) + suc q.0 = rw (cfl-in-is v).product (rw (icfl-concat v) at q.1) in
        rw z (boundary-after (cfl_in v) (separated_cfl_in w) q.0 (next q.0 q.2))

-- ---- strict pieces in one piece

⊑-after : (v w : List ℕ) (i j k i' j' k' : ℕ) → i ≡ length v + suc i' → j ≡ length v + suc j' → k ≡ length v + suc k'
    → slice j' k' w ⊑ slice i' j' w → slice j k (v ++ separator ∷ w) ⊑ slice i j (v ++ separator ∷ w)
⊑-after v w i j k i' j' k' p q r h = rw (p, q, r, slice-after v w j' k', slice-after v w i' j') h

nested-all : {w : List ℕ} → Separation w → (a b i j k : ℕ) → Part (separated_icfl_ends w) a b → Part (separated_cfl_in_ends w) i j → Part (separated_cfl_in_ends w) j k
    → a ≤ i → k ≤ b → slice j k w ⊑ slice i j w
unfolding separated_icfl_ends separated_cfl_in_ends icfl_ends cfl_in_ends
nested-all (whole {v = v} u) a b i j k x y z l h =
    (demand-3 v).nested a b i j k (rw (icfl-unmarked v u) at x) (rw (cfl-in-unmarked v u) at y) (rw (cfl-in-unmarked v u) at z) l h
nested-all (split {v = v} {w = w} u s) a b i j k x y z l h = go
    (part-split (icfl v) (separated_icfl w) n size_i (rw (icfl-split v w u) at x))
    (λ a' b' i' j' k' x' y' z' l' h'. nested-all s a' b' i' j' k' x' y' z' l' h')
  where
    n : ℕ
    n = length v

    size_i : length (flatten (icfl v)) ≡ n
    size_i = ap length (icfl-concat v)

    size_c : length (flatten (cfl_in v)) ≡ n
    size_c = ap length (cfl-in-is v).product

    one : i < j
    one = (rises-adjacent (separated-cfl-in-ends-rise (v ++ separator ∷ w)) y).1

    two : j < k
    two = (rises-adjacent (separated-cfl-in-ends-rise (v ++ separator ∷ w)) z).1

    first : PartAt (cfl_in v) (separated_cfl_in w) n i j
    first = part-split (cfl_in v) (separated_cfl_in w) n size_c (rw (cfl-in-split v w u) at y)

    second : PartAt (cfl_in v) (separated_cfl_in w) n j k
    second = part-split (cfl_in v) (separated_cfl_in w) n size_c (rw (cfl-in-split v w u) at z)

    go : PartAt (icfl v) (separated_icfl w) n a b
        → ((a b i j k : ℕ) → Part (ends_from 0 (separated_icfl w)) a b → Part (ends_from 0 (separated_cfl_in w)) i j → Part (ends_from 0 (separated_cfl_in w)) j k
        → a ≤ i → k ≤ b → slice j k w ⊑ slice i j w)
        → slice j k (v ++ separator ∷ w) ⊑ slice i j (v ++ separator ∷ w)
    go (inside p) next =
        let e : b ≤ n = part-bound (icfl v) (separated_icfl w) size_i p in
        rw (slice-before v (separator ∷ w) j k (omega arith), slice-before v (separator ∷ w) i j (omega (arith, two)))
        ((demand-3 v).nested a b i j k p (part-inside _ _ size_c first (omega (arith, two))) (part-inside _ _ size_c second (omega arith)) l h)
    go (between p q) next = absurd (omega (arith, one, two))
    go (beyond a' b' p q x') next =
        let f = part-beyond _ _ size_c first (omega arith) one in
        let g = part-beyond _ _ size_c second (omega (arith, one)) two in
        let same : g.0 ≡ f.1 = omega (arith, f.3, g.2) in
        ⊑-after v w i j k f.0 f.1 g.1 f.2 f.3 g.3 (next a' b' f.0 f.1 g.1 x' f.4 (rw same at g.4) (omega (arith, f.2)) (omega (arith, g.3)))

-- ---- the sentences that ask nothing of the letters

module _ (w : List ℕ) where
  factor : (i j : ℕ) → Part (separated_icfl_ends w) i j → InverseLyndon (slice i j w)
  unfolding separated_icfl_ends
  factor i j x = inverse-lyndon-factor _ (rw (separated-icfl-concat w) at (part-word [] (separated_icfl w) (separated-icfl-is w).words x))

  neighbours : (i j k : ℕ) → Part (separated_icfl_ends w) i j → Part (separated_icfl_ends w) j k → UnlessMark DominatedBy (slice i j w) (slice j k w)
  unfolding separated_icfl_ends
  neighbours i j k x y =
      rw (separated-icfl-concat w) at (parts-linked [] (separated_icfl w) (separated-icfl-is w).words (separated-icfl-ends-rise w) x y)

  pub pieces-exceed : (i j : ℕ) → Part (separated_icfl_ends w) i j → (u s : List ℕ) → u ++ s ≡ slice i j w → 0 < length u → 0 < length s → s <ₗ slice i j w
  pieces-exceed i j x = (factor i j x).exceeds

  pub pieces-lose : (i j k : ℕ) → Part (separated_icfl_ends w) i j → Part (separated_icfl_ends w) j k → UnlessMark ◌≪◌ (slice i j w) (slice j k w)
  pieces-lose i j k x y m n = dominated-at {m = slice i j w} {n = slice j k w} (neighbours i j k x y m n) 0 (factor i j x).nonempty

  pub pieces-strict : (e : ℕ) → Memᴰ e (separated_icfl_ends w) → Memᴰ e (separated_cfl_in_ends w)
  unfolding separated_icfl_ends separated_cfl_in_ends
  pieces-strict e m = boundary-ends (rises-above (separated-icfl-ends-rise w) m) (boundary-strict (separation w) e (ends-boundary (separated_icfl w) m))

  pub pieces-nested : (a b i j k : ℕ) → Part (separated_icfl_ends w) a b → Part (separated_cfl_in_ends w) i j → Part (separated_cfl_in_ends w) j k → a ≤ i → k ≤ b
      → slice j k w ⊑ slice i j w
  pieces-nested = nested-all (separation w)

  -- ---- and the first, which does

  pieces-compatible : UpToSeparator w → Compatible (UnmarkedPieces w (separated_icfl_ends w)) (length w) (sign w)
  unfolding separated_icfl_ends
  pieces-compatible up first end start other m a b c d e =
      let f : Boundary end (separated_icfl w) = ends-boundary (separated_icfl w) m.0.1 in
      compatible-led w first end start other (unmarked-leads w up first end f (omega arith) m.1) (end-inside w end f) a b c d e

  pub separated-demand-3 : UpToSeparator w → SeparatedDemand3 w
  separated-demand-3 up = record {
    compatible = pieces-compatible up;
    exceeds = pieces-exceed;
    loses = pieces-lose;
    strict = pieces-strict;
    nested = pieces-nested;
  }
