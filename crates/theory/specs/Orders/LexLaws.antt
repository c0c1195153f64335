-- The lexicographic order with equality allowed, x ≤ₗ y, and its laws. Of x <ₗ y and y ≤ₗ x exactly one holds (<ₗ-not-≤ₗ, not-<ₗ-≤ₗ).
use Rattle.std.specs.Prelude.{List, [], ◌∷◌, ◌++◌, ℕ, ◌≤◌, ◌<◌, length}
use Rattle.std.proofs.Common.{arith, length-append}
use Rattle.words.specs.Words.{◌≪◌, here, there, ◌⊑◌, done, step, proper, ◌<ₗ◌, prefix, mismatch}
use Rattle.theory.specs.Orders.PrefixLaws.{⊑_refl, ⊑-length, ⊑-both, ⊑-under}
use Rattle.theory.specs.Orders.MismatchLaws.{≪-trans, ≪-asym, ≪-not-⊑, ≪-extend, ≪-under, Related, less, greater, within, beyond, related}

infix 40 ◌≤ₗ◌
pub data ◌≤ₗ◌ (x y : List ℕ) : Type 0 where
  lost : x ≪ y → x ≤ₗ y
  pre : x ⊑ y → x ≤ₗ y

pub ≤ₗ-refl : (x : List ℕ) → x ≤ₗ x
≤ₗ-refl x = pre (⊑_refl x)

pub ≤ₗ-cons : {x y : List ℕ} (a : ℕ) → x ≤ₗ y → (a ∷ x) ≤ₗ (a ∷ y)
≤ₗ-cons a (lost h) = lost (there h)
≤ₗ-cons a (pre h) = pre (step h)

pub ≤ₗ-≪-trans : {x y z : List ℕ} → x ≤ₗ y → y ≪ z → x ≤ₗ z
≤ₗ-≪-trans (lost h) k = lost (≪-trans h k)
≤ₗ-≪-trans (pre done) k = pre done
≤ₗ-≪-trans (pre (step h)) (here k) = lost (here k)
≤ₗ-≪-trans (pre (step h)) (there k) = ≤ₗ-cons _ (≤ₗ-≪-trans (pre h) k)

pub ≤ₗ-not-≪ : {x y : List ℕ} → x ≤ₗ y → y ≪ x → ⊥
≤ₗ-not-≪ (lost h) k = ≪-asym h k
≤ₗ-not-≪ {x} {y} (pre h) k = ≪-not-⊑ (≪-extend k (⊑_refl y) h) (⊑_refl y)

pub ≤ₗ-not-longer : {x y : List ℕ} → x ≤ₗ y → y ⊑ x → length y < length x → ⊥
≤ₗ-not-longer (lost h) k l = ≪-not-⊑ (≪-extend h (⊑_refl _) k) (⊑_refl _)
≤ₗ-not-longer (pre h) k l = omega (arith, ⊑-length h)

-- what is at most y, and no shorter than a word that y is below by a mismatch, is below it by a mismatch too
pub ≤ₗ-≪-long : {x y z : List ℕ} → x ≤ₗ y → y ≪ z → length z ≤ length x → x ≪ z
≤ₗ-≪-long (lost h) k l = ≪-trans h k
≤ₗ-≪-long (pre done) (here k) l = absurd (omega arith)
≤ₗ-≪-long (pre (step h)) (here k) l = here k
≤ₗ-≪-long (pre done) (there k) l = absurd (omega arith)
≤ₗ-≪-long (pre (step h)) (there k) l = there (≤ₗ-≪-long (pre h) k (omega arith))

-- the same where the mismatch lies in a prefix m of y
pub ≤ₗ-≪-prefix : {x y m z : List ℕ} → x ≤ₗ y → m ⊑ y → m ≪ z → length m ≤ length x → x ≪ z
≤ₗ-≪-prefix (lost h) p k l = ≪-trans h (≪-extend k p (⊑_refl _))
≤ₗ-≪-prefix (pre h) p k l = ≪-extend k (⊑-both p h l) (⊑_refl _)

-- prefixes of two words are in the order of the words, if the first is no longer
pub ≤ₗ-prefixes : {x x' y y' : List ℕ} → x ⊑ x' → y ⊑ y' → x' ≤ₗ y' → length x ≤ length y → x ≤ₗ y
≤ₗ-prefixes {x} {y} p q h l = go (related x y)
  where
    go : Related x y → x ≤ₗ y
    go (less k) = lost k
    go (within k) = pre k
    go (greater k) = absurd (≤ₗ-not-≪ h (≪-extend k q p))
    go (beyond k b) = absurd (omega arith)

pub ≤ₗ-cancel : (t : List ℕ) {x y : List ℕ} → (t ++ x) ≤ₗ (t ++ y) → x ≤ₗ y
≤ₗ-cancel t {x} {y} h = go (related x y)
  where
    go : Related x y → x ≤ₗ y
    go (less k) = lost k
    go (within k) = pre k
    go (greater k) = absurd (≤ₗ-not-≪ h (≪-under t k))
    go (beyond k l) = absurd (≤ₗ-not-longer h (⊑-under t k) (simp length-append (omega arith)))

-- words that go on with a and with c after a common t
pub ≤ₗ-letter : (t : List ℕ) {x y : List ℕ} {a c : ℕ} → (t ++ a ∷ []) ⊑ x → (t ++ c ∷ []) ⊑ y → x ≤ₗ y → a ≤ c
≤ₗ-letter t {a = a} {c = c} p q h =
    let n : ¬ (c < a) = λ l. ≤ₗ-not-≪ h (≪-extend (≪-under t (here l)) q p) in
    omega arith

-- ---- the strict order

pub <ₗ-≤ₗ : {x y : List ℕ} → x <ₗ y → x ≤ₗ y
<ₗ-≤ₗ (prefix (proper h l)) = pre h
<ₗ-≤ₗ (mismatch h) = lost h

pub <ₗ-not-≤ₗ : {x y : List ℕ} → x <ₗ y → y ≤ₗ x → ⊥
<ₗ-not-≤ₗ (prefix (proper h l)) k = ≤ₗ-not-longer k h l
<ₗ-not-≤ₗ (mismatch h) k = ≤ₗ-not-≪ k h

pub not-<ₗ-≤ₗ : (x y : List ℕ) → ¬ (x <ₗ y) → y ≤ₗ x
not-<ₗ-≤ₗ x y n = go (related y x)
  where
    go : Related y x → y ≤ₗ x
    go (less h) = lost h
    go (greater h) = absurd (n (mismatch h))
    go (within h) = pre h
    go (beyond h l) = absurd (n (prefix (proper h l)))
