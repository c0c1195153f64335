-- Tests that decide: Decides P b says that the test b is true just where P holds. Numbers, and the least number that passes.
use Rattle.std.specs.Prelude.{◌≡◌, refl, Bool, true, false, not, ◌&&◌, leb, eqb}
use Rattle.std.proofs.Common.{ap, sym, true≢false, le_refl, arith}
use Rattle.std.proofs.lemmas.Bool.{false≢true}
use Prim.Native.Nat.{ℕ, zero, suc, ◌+◌, ◌≤◌, ◌<◌, compare, Ordering}
use Prim.Native.Nat.compare
use Rattle.std.proofs.Math.Decide.{dec_lt}
use Rattle.std.proofs.Math.Dec.{is_le, compare_is_eq}
use Rattle.words.specs.Factorizations.{least}

pub data Decides (P : Type 0) : Bool → Type 0 where
  holds : P → Decides P true
  fails : ¬ P → Decides P false

pub decides-true : {P : Type 0} {b : Bool} → Decides P b → b ≡ true → P
decides-true (holds p) e = p
decides-true (fails n) e = absurd (false≢true e)

pub decides-false : {P : Type 0} {b : Bool} → Decides P b → b ≡ false → ¬ P
decides-false (holds p) e = absurd (true≢false e)
decides-false (fails n) e = n

pub true-decides : {P : Type 0} {b : Bool} → Decides P b → P → b ≡ true
true-decides (holds p) q = refl
true-decides (fails n) q = absurd (n q)

pub false-decides : {P : Type 0} {b : Bool} → Decides P b → ¬ P → b ≡ false
false-decides (holds p) n = absurd (n p)
false-decides (fails m) n = refl

pub decides-unique : {P : Type 0} {a b : Bool} → Decides P a → Decides P b → a ≡ b
decides-unique (holds p) d = sym (true-decides d p)
decides-unique (fails n) d = sym (false-decides d n)

pub decides_not : {P : Type 0} {b : Bool} → Decides P b → Decides (¬ P) (not b)
decides_not (holds p) = fails (λ n. n p)
decides_not (fails n) = holds n

pub decides_and : {P Q : Type 0} {a b : Bool} → Decides P a → Decides Q b → Decides (P × Q) (a && b)
decides_and (holds p) (holds q) = holds (p, q)
decides_and (holds p) (fails q) = fails (λ h. q h.1)
decides_and (fails p) d = fails (λ h. p h.0)

-- an equivalent statement
pub decides-map : {P Q : Type 0} {b : Bool} → (P → Q) → (Q → P) → Decides P b → Decides Q b
decides-map f g (holds p) = holds (f p)
decides-map f g (fails n) = fails (λ q. n (g q))

-- ---- numbers

pub data Ordered (a b : ℕ) : Ordering → Type 0 where
  lt : a < b → Ordered a b Ordering.lt
  eq : a ≡ b → Ordered a b Ordering.eq
  gt : b < a → Ordered a b Ordering.gt

pub ordered : (a b : ℕ) → Ordered a b (compare a b)
ordered zero zero = rw compare.zero-zero (eq refl)
ordered zero (suc b) = rw compare.zero-suc (lt (omega arith))
ordered (suc a) zero = rw compare.suc-zero (gt (omega arith))
ordered (suc a) (suc b) = rw compare.suc-suc (go (ordered a b))
  where
    go : {o : Ordering} → Ordered a b o → Ordered (suc a) (suc b) o
    go (lt h) = lt (omega arith)
    go (eq h) = eq (ap suc h)
    go (gt h) = gt (omega arith)

pub neither-less : {a b : ℕ} → ¬ (a < b) → ¬ (b < a) → a ≡ b
neither-less h k = omega arith

pub leb-test : (a b : ℕ) → Decides (a ≤ b) (leb a b)
leb-test a b = go (ordered a b)
  where
    go : {o : Ordering} → Ordered a b o → Decides (a ≤ b) (is_le o)
    go (lt h) = holds (omega arith)
    go (eq h) = holds (omega arith)
    go (gt h) = fails (λ k. omega arith)

pub eqb-test : (a b : ℕ) → Decides (a ≡ b) (eqb a b)
eqb-test a b = go (ordered a b)
  where
    go : {o : Ordering} → Ordered a b o → Decides (a ≡ b) (compare_is_eq o)
    go (lt h) = fails (λ k. omega arith)
    go (eq h) = holds h
    go (gt h) = fails (λ k. omega arith)

-- ---- the least number that passes a test

pub data Least (P : ℕ → Type 0) (k i n : ℕ) : Type 0 where
  found : P n → i ≤ n → n < i + k → ((j : ℕ) → i ≤ j → j < n → ¬ P j) → Least P k i n
  never : ((j : ℕ) → i ≤ j → j < i + k → ¬ P j) → Least P k i n

pub least-is : (P : ℕ → Type 0) (test : ℕ → Bool) → ((n : ℕ) → Decides (P n) (test n)) → (k i : ℕ) → Least P k i (least test k i)
unfolding least
least-is P test d zero i = never (λ j l h. absurd (omega arith))
least-is P test d (suc k) i = go (d i) (least-is P test d k (suc i))
  where
    first : (n : ℕ) → ¬ P i → ((j : ℕ) → suc i ≤ j → j < n → ¬ P j) → (j : ℕ) → i ≤ j → j < n → ¬ P j
    first n e h j l m = near (dec_lt i j)
      where
        near : Dec (i < j) → ¬ P j
        near (yes p) = h j p m
        near (no p) = rw (let z : j ≡ i = omega arith in z) e

    go : {t : Bool} → Decides (P i) t → Least P k (suc i) (least test k (suc i)) → Least P (suc k) i (elim t [ true ↦ i | false ↦ least test k (suc i) ])
    go (holds p) v = found p (le_refl i) (omega arith) (λ j l h. absurd (omega arith))
    go (fails e) (found p l h m) = found p (omega arith) (omega arith) (first _ e m)
    go (fails e) (never m) = never (λ j l h. first (i + suc k) e (λ j' l' h'. m j' l' (omega arith)) j l h)

pub least-unique : (P : ℕ → Type 0) (test : ℕ → Bool) → ((n : ℕ) → Decides (P n) (test n)) → (k i n : ℕ)
    → P n → i ≤ n → n < i + k → ((j : ℕ) → i ≤ j → j < n → ¬ P j) → least test k i ≡ n
least-unique P test d k i n p a l h = go (least-is P test d k i)
  where
    go : {m : ℕ} → Least P k i m → m ≡ n
    go (never g) = absurd (g n a l p)
    go {m} (found q b e g) = neither-less (λ c. h m b c q) (λ c. g n a c p)
