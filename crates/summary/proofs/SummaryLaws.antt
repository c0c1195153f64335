-- The summary's definitions clause by clause: start_of and count_of by cases, the thirteen bands by their numbers.
use mathlib.Core.Path.{◌≡◌, refl, ap, ◌∙◌}
use mathlib.Core.Bool.{Bool, true, false, ◌&&◌}
use mathlib.Core.Logic.{◌⊎◌, inl, inr}
use mathlib.Core.List.{List, [], ◌∷◌}
use Prim.Native.Nat.{ℕ, zero, suc, ◌+◌, ◌-◌, ◌≤◌, ◌<◌}
use native.Mathlib.Omega.{arith}
use native.Mathlib.Decide.{ℕ_discrete}
use native.Mathlib.Nat.{add-zero}
use lib.Dec.{eqb}
use lib.ListN.{length, get_or}
use borrow.Author.Tests.{eq-eqb, ne_eqb}
use Rattle.theory.specs.Orders.Decisions.{Decides, holds, fails, eqb-test, decides_and, true-decides, false-decides}
use Rattle.summary.specs.Summary.{lengths_from, greatest, start_of, bit_length_of, count_of, bands_of}
use Rattle.summary.specs.Tallies.{bands_from}

-- ---- where the latest part of length n begins

module _ (n a e : ℕ) (es : List ℕ) where
  -- the first part has that length, and no later one
  abbrev pub LatestHere : Type 0
  LatestHere = (e - a ≡ n) × (count_of n (lengths_from e es) ≡ 0)

  latest-test : Decides LatestHere (eqb (e - a) n && eqb (count_of n (lengths_from e es)) 0)
  latest-test = decides_and (eqb-test (e - a) n) (eqb-test (count_of n (lengths_from e es)) 0)

  abbrev by_test : Bool → ℕ
  by_test t = elim t [ true ↦ a | false ↦ start_of n e es ]

  pub start-here : LatestHere → start_of n a (e ∷ es) ≡ a
  unfolding start_of
  start-here h = ap by_test (true-decides latest-test h)

  pub start-later : ¬ LatestHere → start_of n a (e ∷ es) ≡ start_of n e es
  unfolding start_of
  start-later h = ap by_test (false-decides latest-test h)

  pub start-either : (start_of n a (e ∷ es) ≡ a) ⊎ (start_of n a (e ∷ es) ≡ start_of n e es)
  start-either = decided-by latest-test
    where
      decided-by : {t : Bool} → Decides LatestHere t → (start_of n a (e ∷ es) ≡ a) ⊎ (start_of n a (e ∷ es) ≡ start_of n e es)
      decided-by (holds l) = inl (start-here l)
      decided-by (fails l) = inr (start-later l)

-- ---- how many entries are k

pub count-here : (k n : ℕ) (ns : List ℕ) → n ≡ k → count_of k (n ∷ ns) ≡ suc (count_of k ns)
unfolding count_of
count-here k n ns h = rw (eq-eqb n k h, count_of)

pub count-other : (k n : ℕ) (ns : List ℕ) → ¬ (n ≡ k) → count_of k (n ∷ ns) ≡ count_of k ns
unfolding count_of
count-other k n ns h = rw (ne_eqb n k h, count_of)

pub count-more : (k n : ℕ) (ns : List ℕ) → count_of k ns ≤ count_of k (n ∷ ns)
count-more k n ns = go (ℕ_discrete n k)
  where
    go : Dec (n ≡ k) → count_of k ns ≤ count_of k (n ∷ ns)
    go (yes h) = omega (arith, count-here k n ns h)
    go (no h) = omega (arith, count-other k n ns h)

-- the greatest entry is counted, a larger number is not
pub count-above : (n : ℕ) (ns : List ℕ) → greatest ns < n → count_of n ns ≡ 0
unfolding greatest count_of
count-above n [] h = refl
count-above n (m ∷ ns) h = count-other n m ns (λ z. omega arith) ∙ count-above n ns (omega arith)

pub count-greatest : (n : ℕ) (ns : List ℕ) → greatest ns ≡ n → 0 < n → 0 < count_of n ns
unfolding greatest
count-greatest n [] e h = absurd (omega arith)
count-greatest n (m ∷ ns) e h = go (ℕ_discrete m n) (λ z. count-greatest n ns z h)
  where
    go : Dec (m ≡ n) → (greatest ns ≡ n → 0 < count_of n ns) → 0 < count_of n (m ∷ ns)
    go (yes z) ih = omega (arith, count-here n m ns z)
    go (no z) ih = omega (arith, count-other n m ns z, ih (omega arith))

-- ---- the bands

pub count_most : (k a : ℕ) (es : List ℕ) → count_of k (bands_from a es) ≤ length es
unfolding lengths_from count_of
count_most k a [] = omega arith
count_most k a (e ∷ es) = go (eqb-test (bit_length_of (e - a)) k) (count_most k e es)
  where
    go : {t : Bool} → Decides (bit_length_of (e - a) ≡ k) t → count_of k (bands_from e es) ≤ length es
        → (elim t [ true ↦ suc (count_of k (bands_from e es)) | false ↦ count_of k (bands_from e es) ]) ≤ suc (length es)
    go (holds h) ih = omega arith
    go (fails h) ih = omega arith

-- how many entries are k, k + 1, and so on, b numbers in all
abbrev pub counts_from : ℕ → ℕ → List ℕ → List ℕ
counts_from zero k ns = []
counts_from (suc b) k ns = count_of k ns ∷ counts_from b (suc k) ns

pub bands-are-counts : (es : List ℕ) → bands_of es ≡ counts_from 13 1 (bands_from 0 es)
unfolding bands_of
bands-are-counts es = refl

counts-length : (b k : ℕ) (ns : List ℕ) → length (counts_from b k ns) ≡ b
counts-length zero k ns = refl
counts-length (suc b) k ns = ap suc (counts-length b (suc k) ns)

counts-at : (b k i : ℕ) (ns : List ℕ) → i < b → get_or (counts_from b k ns) i 0 ≡ count_of (k + i) ns
counts-at zero k i ns h = absurd (omega arith)
counts-at (suc b) k zero ns h = rw (add-zero k)
counts-at (suc b) k (suc i) ns h = counts-at b (suc k) i ns (omega arith) ∙ rw (let z : suc k + i ≡ k + suc i = omega arith in z)

pub bands-length : (es : List ℕ) → length (bands_of es) ≡ 13
bands-length es = rw (bands-are-counts es) (counts-length 13 1 (bands_from 0 es))

pub bands-at : (es : List ℕ) (k : ℕ) → k < 13 → get_or (bands_of es) k 0 ≡ count_of (suc k) (bands_from 0 es)
bands-at es k h =
    let z : 1 + k ≡ suc k = omega arith in
    rw (bands-are-counts es) (counts-at 13 1 k (bands_from 0 es) h ∙ rw z)
