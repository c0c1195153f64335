-- The places of a word whose suffix comes first, in the inverse order, among it and all earlier suffixes; and the boundaries of a
-- list of words. Boundaries of both factorizations are such places, and those of an anti-Lyndon factorization are all of them
-- (boundary-first, first-boundary). Within a range that ends at such a place suffixes compare as to the end (range-before, before-range).
use Rattle.std.specs.Prelude.{◌≡◌, ℕ, ◌+◌, ◌≤◌, ◌<◌, length, drop}
use Rattle.std.proofs.Common.{ap, zero-le, arith, length-append, drop_of_length-le, drop-drop}
use mathlib.Core.List.{List, [], ◌∷◌, ◌++◌, flatten, append_assoc}
use Rattle.std.proofs.Math.Decide.{dec_lt}
use Rattle.std.proofs.Math.Seq.{drop-append-add, drop-append_seam}
use Rattle.std.proofs.lemmas.List.{drop-append-le}
use Rattle.words.specs.Words.{done, InverseLyndon, AntiLyndon}
use Rattle.theory.specs.Statements.{EqualOrAfter, DominatedBy, Next, Linked}
use Rattle.theory.specs.Orders.PrefixLaws.{⊑-split}
use Rattle.theory.specs.Orders.MismatchLaws.{≪-append, Related, less, greater, within, beyond, related}
use Rattle.theory.specs.Orders.InverseLaws.{◌≼◌, won, pre, ≼_refl, ≼_trans, ≼-under, ≼-not-≪, ≼-antisym}
use Rattle.theory.specs.Lyndon.WordTests.{suffix-loses}
use Rattle.theory.specs.Lyndon.Suffixes.{Begins, first, second, begins, dominated-at}

-- the suffix at i comes no later than any earlier one
abbrev pub FirstSuffix : ℕ → List ℕ → Type 0
FirstSuffix i w = (j : ℕ) → j ≤ i → drop i w ≼ drop j w

-- s comes no later than any suffix of m followed by s
abbrev pub Leads : List ℕ → List ℕ → Type 0
Leads m s = (i : ℕ) → s ≼ (drop i m ++ s)

-- past the end of m there is nothing to show
leads-within : {m s : List ℕ} → ((i : ℕ) → i < length m → s ≼ (drop i m ++ s)) → Leads m s
leads-within {m} {s} f i = go (dec_lt i (length m))
  where
    go : Dec (i < length m) → s ≼ (drop i m ++ s)
    go (yes h) = f i h
    go (no h) = rw (drop_of_length-le m {i = i} (omega arith)) (≼_refl s)

-- what follows a word of the list leads it
pub data Led : List (List ℕ) → Type 0 where
  none : Led []
  more : {m : List ℕ} {ms : List (List ℕ)} → Leads m (flatten ms) → Led ms → Led (m ∷ ms)

-- i is where a word of the list begins, or where the last one ends
pub data Boundary : ℕ → List (List ℕ) → Type 0 where
  start : {ms : List (List ℕ)} → Boundary 0 ms
  later : {i : ℕ} {m : List ℕ} {ms : List (List ℕ)} → Boundary i ms → Boundary (length m + i) (m ∷ ms)

pub boundary-inside : {i : ℕ} {ms : List (List ℕ)} → Boundary i ms → i ≤ length (flatten ms)
unfolding flatten
boundary-inside start = zero-le
boundary-inside (later c) = rw length-append (omega (arith, boundary-inside c))

pub boundary-first : {i : ℕ} {ms : List (List ℕ)} → Led ms → Boundary i ms → FirstSuffix i (flatten ms)
unfolding flatten
boundary-first {ms} g start j l = rw (let z : j ≡ 0 = omega arith in z) (≼_refl (flatten ms))
boundary-first (more {m = m} {ms = ms} h g) (later {i = i} c) j l =
    rw (drop-append-add m (flatten ms) i) (go (λ k b. boundary-first g c k b) (begins m (flatten ms) j))
  where
    go : FirstSuffix i (flatten ms) → Begins m (flatten ms) j → drop i (flatten ms) ≼ drop j (m ++ flatten ms)
    go next (first b e) = rw e (≼_trans (next 0 zero-le) (h j))
    go next (second k b e) = rw e (next k (omega arith))

-- ---- dominated lists

pub dominated-led : {ms : List (List ℕ)} → Linked InverseLyndon DominatedBy ms → Led ms
unfolding flatten
dominated-led Linked.none = none
dominated-led (Linked.more {m = m} {ms = ms} k d g) = more (leads d) (dominated-led g)
  where
    leads : {ns : List (List ℕ)} → Next DominatedBy m ns → Leads m (flatten ns)
    leads Next.end = λ i. pre done
    leads (Next.by c) = leads-within {m = m} (λ i h. won (≪-append _ _ (dominated-at c i h)))

pub first-boundary : {ms : List (List ℕ)} → Linked AntiLyndon EqualOrAfter ms → (i : ℕ) → i ≤ length (flatten ms) → FirstSuffix i (flatten ms) → Boundary i ms
unfolding flatten
first-boundary Linked.none i l f = rw (let z : i ≡ 0 = omega arith in z) start
first-boundary (Linked.more {m = m} {ms = ms} a x d) i l f = go (begins m (flatten ms) i) (λ k. first-boundary d k)
  where
    go : Begins m (flatten ms) i → ((k : ℕ) → k ≤ length (flatten ms) → FirstSuffix k (flatten ms) → Boundary k ms) → Boundary i (m ∷ ms)
    go (first b e) next = near (dec_lt 0 i)
      where
        near : Dec (0 < i) → Boundary i (m ∷ ms)
        near (no p) = rw (let z : i ≡ 0 = omega arith in z) start
        near (yes p) = absurd (≼-not-≪ (rw e at (f 0 zero-le)) (≪-append _ _ (suffix-loses a i p b)))
    go (second k b e) next =
        rw b (later (next k (omega (arith, simp length-append at l)) (λ j h. rw (e, drop-append-add) at (f (length m + j) (omega arith)))))

-- ---- a range that ends at such a place

pub first-leads : (x u y : List ℕ) → FirstSuffix (length x + length u) (x ++ (u ++ y)) → Leads u y
first-leads x u y f = leads-within {m = u} (λ i h.
    rw (drop-append-add x (u ++ y) (length u), drop-append-add x (u ++ y) i, drop-append_seam, drop-append-le i u y (omega arith))
    at (f (length x + i) (omega arith)))

pub range-before : {u y : List ℕ} → Leads u y → (i j : ℕ) → drop i u ≼ drop j u → (drop i u ++ y) ≼ (drop j u ++ y)
range-before h i j (won x) = won (≪-append _ _ x)
range-before {u} {y} h i j (pre p) =
    let e : drop j u ≡ drop i u ++ drop (j + length (drop i u)) u = rw drop-drop at (⊑-split p) in
    rw (e, append_assoc) (≼-under (drop i u) (h (j + length (drop i u))))

pub before-range : {u y : List ℕ} → Leads u y → (i j : ℕ) → (drop i u ++ y) ≼ (drop j u ++ y) → drop i u ≼ drop j u
before-range {u} {y} h i j k = go (related (drop i u) (drop j u))
  where
    go : Related (drop i u) (drop j u) → drop i u ≼ drop j u
    go (less x) = absurd (≼-not-≪ k (≪-append y y x))
    go (greater x) = won x
    go (within x) = pre x
    go (beyond x l) = absurd (omega (arith, simp length-append at (ap length (≼-antisym k (range-before h j i (pre x))))))
