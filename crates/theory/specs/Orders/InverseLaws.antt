-- The inverse order with equality allowed, x ≼ y, and its laws. Of x ≺ y and y ≼ x exactly one holds (≺-not-≼, not-≺-≼).
use Rattle.std.specs.Prelude.{◌≡◌, List, [], ◌∷◌, ◌++◌, ℕ, length}
use Rattle.std.proofs.Common.{arith}
use Rattle.words.specs.Words.{◌≪◌, here, there, ◌⊑◌, done, step, proper, ◌≺◌, prefix, mismatch}
use Rattle.theory.specs.Orders.PrefixLaws.{⊑_refl, ⊑_trans, ⊑-length, ⊑-whole}
use Rattle.theory.specs.Orders.MismatchLaws.{≪-trans, ≪-asym, ≪-not-⊑, ≪-extend, Related, less, greater, within, beyond, related}

infix 40 ◌≼◌
pub data ◌≼◌ (x y : List ℕ) : Type 0 where
  won : y ≪ x → x ≼ y
  pre : x ⊑ y → x ≼ y

pub ≼_refl : (x : List ℕ) → x ≼ x
≼_refl x = pre (⊑_refl x)

pub ≼-cons : {x y : List ℕ} (a : ℕ) → x ≼ y → (a ∷ x) ≼ (a ∷ y)
≼-cons a (won h) = won (there h)
≼-cons a (pre h) = pre (step h)

pub ≼-under : (p : List ℕ) {x y : List ℕ} → x ≼ y → (p ++ x) ≼ (p ++ y)
≼-under [] h = h
≼-under (a ∷ p) h = ≼-cons a (≼-under p h)

pub ≼_trans : {x y z : List ℕ} → x ≼ y → y ≼ z → x ≼ z
≼_trans (won h) (won k) = won (≪-trans k h)
≼_trans (won h) (pre k) = won (≪-extend h k (⊑_refl _))
≼_trans (pre h) (pre k) = pre (⊑_trans h k)
≼_trans (pre done) (won k) = pre done
≼_trans (pre (step h)) (won (here k)) = won (here k)
≼_trans (pre (step h)) (won (there k)) = ≼-cons _ (≼_trans (pre h) (won k))

pub ≼-not-≪ : {x y : List ℕ} → x ≼ y → x ≪ y → ⊥
≼-not-≪ (won h) k = ≪-asym h k
≼-not-≪ (pre h) k = ≪-not-⊑ k h

pub ≼-antisym : {x y : List ℕ} → x ≼ y → y ≼ x → x ≡ y
≼-antisym (won h) k = absurd (≼-not-≪ k h)
≼-antisym (pre h) (won k) = absurd (≪-not-⊑ k h)
≼-antisym (pre h) (pre k) = ⊑-whole h (⊑-length k)

-- ---- the strict order

pub ≺-≼ : {x y : List ℕ} → x ≺ y → x ≼ y
≺-≼ (prefix (proper h l)) = pre h
≺-≼ (mismatch h) = won h

pub ≺-cons : {x y : List ℕ} (a : ℕ) → x ≺ y → (a ∷ x) ≺ (a ∷ y)
≺-cons a (prefix (proper h l)) = prefix (proper (step h) (omega arith))
≺-cons a (mismatch h) = mismatch (there h)

pub ≺-not-≼ : {x y : List ℕ} → x ≺ y → y ≼ x → ⊥
≺-not-≼ (prefix (proper h l)) (won k) = ≪-not-⊑ k h
≺-not-≼ (prefix (proper h l)) (pre k) = omega (arith, ⊑-length k)
≺-not-≼ (mismatch h) k = ≼-not-≪ k h

pub ≺-irrefl : {x : List ℕ} → x ≺ x → ⊥
≺-irrefl h = ≺-not-≼ h (≼_refl _)

-- words of different lengths differ
pub ≼-≺ : {x y : List ℕ} → x ≼ y → ¬ (length x ≡ length y) → x ≺ y
≼-≺ (won h) n = mismatch h
≼-≺ (pre h) n = prefix (proper h (omega (arith, ⊑-length h)))

pub not-≺-≼ : (x y : List ℕ) → ¬ (x ≺ y) → y ≼ x
not-≺-≼ x y n = go (related y x)
  where
    go : Related y x → y ≼ x
    go (less h) = absurd (n (mismatch h))
    go (greater h) = won h
    go (within h) = pre h
    go (beyond h l) = absurd (n (prefix (proper h l)))
