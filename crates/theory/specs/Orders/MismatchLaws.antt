-- Laws of ≪, and the one case split that both orders are made of: found x y, and related x y with less detail.
use Rattle.std.specs.Prelude.{◌≡◌, refl, List, [], ◌∷◌, ◌++◌, length, take, get_or}
use Rattle.std.proofs.Common.{ap, lt_trans, arith}
use Prim.Native.Nat.{ℕ, zero, suc, ◌≤◌, ◌<◌, Ordering}
use Rattle.words.specs.Words.{◌≪◌, here, there, ◌⊑◌, done, step, ◌⊏◌, proper, Outcome, outcome_of}
use Rattle.theory.specs.Orders.Decisions.{Ordered, lt, eq, gt, ordered}
use Rattle.theory.specs.Orders.PrefixLaws.{⊑_refl, ⊑-parts, take-⊑-next}

pub ≪-trans : {x y z : List ℕ} → x ≪ y → y ≪ z → x ≪ z
≪-trans (here h) (here k) = here (lt_trans h k)
≪-trans (here h) (there t) = here h
≪-trans (there s) (here k) = here k
≪-trans (there s) (there t) = there (≪-trans s t)

-- past an equal first letter
pub ≪-tail : {a b : ℕ} {x y : List ℕ} → a ≡ b → (a ∷ x) ≪ (b ∷ y) → x ≪ y
≪-tail e (here h) = absurd (omega arith)
≪-tail e (there t) = t

-- a mismatch excludes a prefix
pub ≪-not-⊑ : {x y : List ℕ} → x ≪ y → x ⊑ y → ⊥
≪-not-⊑ (here h) p = let e = ⊑-parts p in omega (arith, e.0)
≪-not-⊑ (there t) p = ≪-not-⊑ t (⊑-parts p).1

pub ≪-asym : {x y : List ℕ} → x ≪ y → y ≪ x → ⊥
≪-asym h k = ≪-not-⊑ (≪-trans h k) (⊑_refl _)

pub ≪-left-nonempty : {x y : List ℕ} → x ≪ y → 0 < length x
≪-left-nonempty (here h) = omega arith
≪-left-nonempty (there h) = omega arith

-- ---- append

-- a mismatch stays whatever follows (source 004, Lemma 2.3)
pub ≪-append : {x y : List ℕ} (u v : List ℕ) → x ≪ y → (x ++ u) ≪ (y ++ v)
≪-append u v (here h) = here h
≪-append u v (there t) = there (≪-append u v t)

pub ≪-extend : {x x' y y' : List ℕ} → x ≪ y → x ⊑ x' → y ⊑ y' → x' ≪ y'
≪-extend (here h) (step p) (step q) = here h
≪-extend (there t) (step p) (step q) = there (≪-extend t p q)

pub ≪-under : (p : List ℕ) {x y : List ℕ} → x ≪ y → (p ++ x) ≪ (p ++ y)
≪-under [] h = h
≪-under (a ∷ p) h = there (≪-under p h)

pub ≪-cancel : (p : List ℕ) {x y : List ℕ} → (p ++ x) ≪ (p ++ y) → x ≪ y
≪-cancel [] h = h
≪-cancel (a ∷ p) h = ≪-cancel p (≪-tail refl h)

-- ---- letters

pub ≪-letters : (k : ℕ) (x y : List ℕ) → k < length x → k < length y → ((t : ℕ) → t < k → get_or x t 0 ≡ get_or y t 0) → get_or x k 0 < get_or y k 0 → x ≪ y
≪-letters k [] y p q e h = absurd (omega arith)
≪-letters k (a ∷ x) [] p q e h = absurd (omega arith)
≪-letters zero (a ∷ x) (b ∷ y) p q e h = here h
≪-letters (suc k) (a ∷ x) (b ∷ y) p q e h =
    rw (← e 0 (omega arith)) (there (≪-letters k x y (omega arith) (omega arith) (λ t l. e (suc t) (omega arith)) h))

-- the first k letters of w, followed by a letter that is larger than the next one of w
pub take-≪-larger : (k n : ℕ) (w : List ℕ) {b : ℕ} → k < n → n ≤ length w → get_or w k 0 < b → take n w ≪ (take k w ++ b ∷ [])
take-≪-larger k n w l h x = ≪-extend (≪-under (take k w) (here x)) (take-⊑-next k n w l h) (⊑_refl _)

-- y, which begins with x, is below x ++ b ∷ []: its next letter is below b
pub ≪-last : {x y : List ℕ} {b : ℕ} → x ⊑ y → y ≪ (x ++ b ∷ []) → (length x < length y) × (get_or y (length x) 0 < b)
≪-last done (here h) = (omega arith, h)
≪-last done (there h) = elim h [ ]
≪-last (step p) h = let q = ≪-last p (≪-tail refl h) in (omega (arith, q.0), q.1)

-- ---- how two words compare

pub data Found (x y : List ℕ) : Outcome → Type 0 where
  less : x ≪ y → Found x y Outcome.less
  greater : y ≪ x → Found x y Outcome.greater
  same : x ≡ y → Found x y Outcome.same
  shorter : x ⊏ y → Found x y Outcome.shorter
  longer : y ⊏ x → Found x y Outcome.longer

pub found : (x y : List ℕ) → Found x y (outcome_of x y)
unfolding outcome_of
found [] [] = same refl
found [] (b ∷ y) = shorter (proper done (omega arith))
found (a ∷ x) [] = longer (proper done (omega arith))
found (a ∷ x) (b ∷ y) = go (ordered a b) (found x y)
  where
    under : {o : Outcome} → Found x y o → Found (a ∷ x) (a ∷ y) o
    under (less h) = less (there h)
    under (greater h) = greater (there h)
    under (same e) = same (ap (λ (t : List ℕ). a ∷ t) e)
    under (shorter (proper h l)) = shorter (proper (step h) (omega arith))
    under (longer (proper h l)) = longer (proper (step h) (omega arith))

    go : {o : Ordering} → Ordered a b o → Found x y (outcome_of x y)
        → Found (a ∷ x) (b ∷ y) (elim o [ Ordering.lt ↦ Outcome.less | Ordering.eq ↦ outcome_of x y | Ordering.gt ↦ Outcome.greater ])
    go (lt h) f = less (here h)
    go (eq e) f = rw (← e) (under f)
    go (gt h) f = greater (here h)

-- the same with less detail: four cases, exactly one holds
pub data Related (x y : List ℕ) : Type 0 where
  less : x ≪ y → Related x y
  greater : y ≪ x → Related x y
  within : x ⊑ y → Related x y
  beyond : y ⊑ x → length y < length x → Related x y

pub related : (x y : List ℕ) → Related x y
related x y = go (found x y)
  where
    go : {o : Outcome} → Found x y o → Related x y
    go (Found.less h) = less h
    go (Found.greater h) = greater h
    go (same e) = within (rw e (⊑_refl y))
    go (shorter (proper h l)) = within h
    go (longer (proper h l)) = beyond h l
