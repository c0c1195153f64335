-- Ends and boundaries: the ends of a list of words are its boundaries but the first (ends-boundary, boundary-ends). Laws of Adjacent.
use Rattle.std.specs.Prelude.{◌≡◌, refl, ◌⊎◌, ℕ, ◌+◌, ◌<◌, length}
use Rattle.std.proofs.Common.{inl, inr, arith}
use mathlib.Core.List.Memᴰ
use mathlib.Core.List.{List, [], ◌∷◌, Memᴰ}
use Rattle.words.specs.Factorizations.{ends_from}
use Rattle.theory.specs.Statements.{Adjacent, here, there}
use Rattle.theory.specs.Places.FirstSuffixes.{Boundary, start, later}

-- ---- boundaries

-- where the list begins at i
boundary-from : (i : ℕ) {c : ℕ} {ms : List (List ℕ)} → Boundary c ms → Memᴰ (i + c) (i ∷ ends_from i ms)
unfolding ends_from
boundary-from i start = Memᴰ.head {x = i} (omega arith)
boundary-from i (later {i = c} {m = m} k) =
    Memᴰ.tail (Memᴰ.cast (let z : i + (length m + c) ≡ i + length m + c = omega arith in z) (boundary-from (i + length m) k))

from-boundary : (i : ℕ) (ms : List (List ℕ)) {e : ℕ} → Memᴰ e (i ∷ ends_from i ms) → (c : ℕ) × (e ≡ i + c) × Boundary c ms
unfolding ends_from
from-boundary i [] h = (0, omega (arith, Memᴰ.eq_of_singleton h), start)
from-boundary i (m ∷ ms) {e} h = go (Memᴰ.cases_cons h) (λ x. from-boundary (i + length m) ms x)
  where
    es : List ℕ
    es = (i + length m) ∷ ends_from (i + length m) ms

    go : (e ≡ i) ⊎ Memᴰ e es → (Memᴰ e es → (c : ℕ) × (e ≡ i + length m + c) × Boundary c ms) → (c : ℕ) × (e ≡ i + c) × Boundary c (m ∷ ms)
    go (inl x) next = (0, omega arith, start)
    go (inr x) next = let q = next x in (length m + q.0, omega (arith, q.1), later q.2)

pub start-boundary : (ms : List (List ℕ)) {e : ℕ} → Memᴰ e (0 ∷ ends_from 0 ms) → Boundary e ms
start-boundary ms {e} h = let q = from-boundary 0 ms h in rw (let z : e ≡ q.0 = omega (arith, q.1) in z) q.2

pub ends-boundary : (ms : List (List ℕ)) {e : ℕ} → Memᴰ e (ends_from 0 ms) → Boundary e ms
ends-boundary ms h = start-boundary ms (Memᴰ.tail h)

pub boundary_start : {e : ℕ} {ms : List (List ℕ)} → Boundary e ms → Memᴰ e (0 ∷ ends_from 0 ms)
boundary_start {e} b = Memᴰ.cast (let z : e ≡ 0 + e = omega arith in z) (boundary-from 0 b)

pub boundary-ends : {e : ℕ} {ms : List (List ℕ)} → 0 < e → Boundary e ms → Memᴰ e (ends_from 0 ms)
boundary-ends {e} {ms} p b = go (Memᴰ.cases_cons (boundary_start b))
  where
    go : (e ≡ 0) ⊎ Memᴰ e (ends_from 0 ms) → Memᴰ e (ends_from 0 ms)
    go (inl z) = absurd (omega arith)
    go (inr x) = x

-- ---- neighbours

pub adjacent-cases : {i j a b : ℕ} {es : List ℕ} → Adjacent i j (a ∷ b ∷ es) → ((i ≡ a) × (j ≡ b)) ⊎ Adjacent i j (b ∷ es)
adjacent-cases here = inl (refl, refl)
adjacent-cases (there x) = inr x

pub adjacent-one : {i j a : ℕ} → Adjacent i j (a ∷ []) → ⊥
adjacent-one (there x) = elim x [ ]

pub adjacent-left : {i j : ℕ} {es : List ℕ} → Adjacent i j es → Memᴰ i es
adjacent-left here = Memᴰ.head refl
adjacent-left (there x) = Memᴰ.tail (adjacent-left x)

pub adjacent-right : {i j : ℕ} {es : List ℕ} → Adjacent i j es → Memᴰ j es
adjacent-right here = Memᴰ.tail (Memᴰ.head refl)
adjacent-right (there x) = Memᴰ.tail (adjacent-right x)
