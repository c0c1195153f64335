-- The words of a linked list between its neighbouring ends, as slices of the product: what stands from i to j has P (part-word), and has
-- R to what stands from j to k (parts-linked). The ends rise (Rises), since no word is empty.
use Rattle.std.specs.Prelude.{◌≡◌, ◌⊎◌}
use Rattle.std.proofs.Common.{inl, inr, arith, drop_at, take_at}
use mathlib.Core.List.Memᴰ
use mathlib.Core.List.{List, [], ◌∷◌, ◌++◌, flatten, append_assoc, Memᴰ}
use Prim.Native.Nat.{ℕ, ◌+◌, ◌≤◌, ◌<◌}
use Rattle.std.proofs.Math.ListN.{length, length-append}
use Rattle.std.proofs.Math.Seq.{slice}
use Rattle.words.specs.Factorizations.{ends_from}
use Rattle.theory.specs.Statements.{Adjacent, Next, by, Linked}
use Rattle.theory.specs.Places.Ends.{adjacent-cases, adjacent-one}
use Rattle.theory.specs.Places.EndsRise.{Rises, done, more, rises-most, rises-head, rises-tail}

pub rises-above : {n b e : ℕ} {es : List ℕ} → Rises n b es → Memᴰ e es → b < e
rises-above (done z) x = absurd (Memᴰ.not-nil x)
rises-above {e = e} (more {b = b} {e = f} {es = es} h r) x = go (Memᴰ.cases_cons x) (λ y. rises-above r y)
  where
    go : (e ≡ f) ⊎ Memᴰ e es → (Memᴰ e es → f < e) → b < e
    go (inl z) next = omega arith
    go (inr y) next = omega (arith, next y)

pub rises-below : {n b e : ℕ} {es : List ℕ} → Rises n b es → Memᴰ e es → e ≤ n
rises-below (done z) x = absurd (Memᴰ.not-nil x)
rises-below {n} {e = e} (more {e = f} {es = es} h r) x = go (Memᴰ.cases_cons x) (λ y. rises-below r y)
  where
    go : (e ≡ f) ⊎ Memᴰ e es → (Memᴰ e es → e ≤ n) → e ≤ n
    go (inl z) next = omega (arith, rises-most r)
    go (inr y) next = next y

pub rises-adjacent : {n b i j : ℕ} {es : List ℕ} → Rises n b es → Adjacent i j (b ∷ es) → (b ≤ i) × (i < j)
rises-adjacent (done z) x = absurd (adjacent-one x)
rises-adjacent {i = i} {j = j} (more {b = b} {e = e} {es = es} h r) x = go (adjacent-cases x) (λ y. rises-adjacent r y)
  where
    go : ((i ≡ b) × (j ≡ e)) ⊎ Adjacent i j (e ∷ es) → (Adjacent i j (e ∷ es) → (e ≤ i) × (i < j)) → (b ≤ i) × (i < j)
    go (inl z) next = (omega (arith, z.0), omega (arith, z.0, z.1))
    go (inr y) next = (omega (arith, (next y).0), (next y).1)

pub slice-middle : (u m y : List ℕ) {i j : ℕ} → i ≡ length u → j ≡ length u + length m → slice i j (u ++ (m ++ y)) ≡ m
slice-middle u m y {i} {j} p q = rw (← append_assoc u m y, take_at (u ++ m) y j (rw length-append (omega arith)), drop_at u m i (omega arith))

-- m, which ends where the list begins, and the first word of the list
first-linked : {R : List ℕ → List ℕ → Type 0} (u m : List ℕ) (ms : List (List ℕ)) {n j k : ℕ} → j ≡ length u → Next R m ms
    → Rises n j (ends_from j ms) → Adjacent j k (j ∷ ends_from j ms)
    → R m (slice j k (u ++ flatten ms))
unfolding ends_from flatten
first-linked u m [] e d r x = absurd (adjacent-one x)
first-linked {R} u m (n ∷ ns) {j = j} {k = k} e (by d) r x = go (adjacent-cases x)
  where
    go : ((j ≡ j) × (k ≡ j + length n)) ⊎ Adjacent j k ((j + length n) ∷ ends_from (j + length n) ns) → R m (slice j k (u ++ (n ++ flatten ns)))
    go (inl z) = rw (slice-middle u n (flatten ns) {i = j} {j = k} e (omega (arith, z.1))) d
    go (inr y) = absurd (omega (arith, (rises-adjacent (rises-tail r) y).0, rises-head r))

module _ {P : List ℕ → Type 0} {R : List ℕ → List ℕ → Type 0} where
  -- u stands before the list
  pub part-word : (u : List ℕ) (ms : List (List ℕ)) {i j : ℕ} → Linked P R ms → Adjacent i j (length u ∷ ends_from (length u) ms)
      → P (slice i j (u ++ flatten ms))
  unfolding ends_from flatten
  part-word u [] g x = absurd (adjacent-one x)
  part-word u (m ∷ ms) {i} {j} (Linked.more p d g) x = go (adjacent-cases x) (λ y. part-word (u ++ m) ms g y)
    where
      go : ((i ≡ length u) × (j ≡ length u + length m)) ⊎ Adjacent i j ((length u + length m) ∷ ends_from (length u + length m) ms)
          → (Adjacent i j (length (u ++ m) ∷ ends_from (length (u ++ m)) ms) → P (slice i j ((u ++ m) ++ flatten ms))) → P (slice i j (u ++ (m ++ flatten ms)))
      go (inl e) next = rw (slice-middle u m (flatten ms) e.0 e.1) p
      go (inr y) next = rw append_assoc at (next (rw length-append y))

  pub parts-linked : (u : List ℕ) (ms : List (List ℕ)) {n i j k : ℕ} → Linked P R ms → Rises n (length u) (ends_from (length u) ms)
      → Adjacent i j (length u ∷ ends_from (length u) ms) → Adjacent j k (length u ∷ ends_from (length u) ms)
      → R (slice i j (u ++ flatten ms)) (slice j k (u ++ flatten ms))
  unfolding ends_from flatten
  parts-linked u [] g r x y = absurd (adjacent-one x)
  parts-linked u (m ∷ ms) {n} {i} {j} {k} (Linked.more p d g) r x y =
      go (adjacent-cases x) (adjacent-cases y) (λ s x y. parts-linked (u ++ m) ms {n = n} g s x y)
    where
      es : List ℕ
      es = (length u + length m) ∷ ends_from (length u + length m) ms

      size : length (u ++ m) ≡ length u + length m
      size = length-append u m

      go : ((i ≡ length u) × (j ≡ length u + length m)) ⊎ Adjacent i j es → ((j ≡ length u) × (k ≡ length u + length m)) ⊎ Adjacent j k es
          → (Rises n (length (u ++ m)) (ends_from (length (u ++ m)) ms) → Adjacent i j (length (u ++ m) ∷ ends_from (length (u ++ m)) ms)
          → Adjacent j k (length (u ++ m) ∷ ends_from (length (u ++ m)) ms) → R (slice i j ((u ++ m) ++ flatten ms)) (slice j k ((u ++ m) ++ flatten ms)))
          → R (slice i j (u ++ (m ++ flatten ms))) (slice j k (u ++ (m ++ flatten ms)))
      go (inl e) (inl f) next = absurd (omega (arith, e.1, f.0, rises-head r))
      go (inl e) (inr y) next =
          rw (slice-middle u m (flatten ms) {i = i} {j = j} e.0 e.1, ← append_assoc u m (flatten ms))
          (first-linked (u ++ m) m ms {n = n} (omega (arith, e.1, size)) d (rw e.1 (rises-tail r)) (rw (← e.1) at y))
      go (inr x) (inl f) next = let q = rises-adjacent (rises-tail r) x in absurd (omega (arith, q.0, q.1, f.0))
      go (inr x) (inr y) next = rw append_assoc at (next (rw size (rises-tail r)) (rw size x) (rw size y))
