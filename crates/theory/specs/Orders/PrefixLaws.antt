-- Laws of ⊑: order, lengths, prefixes of one word, append, drop, take, and the letter after a prefix.
use Rattle.std.specs.Prelude.{◌≡◌, refl, List, [], ◌∷◌, ◌++◌, ℕ, zero, suc, ◌≤◌, ◌<◌, length, take, drop, get_or}
use Rattle.std.proofs.Common.{ap, zero-le, suc-le-suc, arith, take-append-drop, take-suc, take-take}
use Rattle.words.specs.Words.{◌⊑◌, done, step}

pub ⊑_refl : (x : List ℕ) → x ⊑ x
⊑_refl [] = done
⊑_refl (a ∷ x) = step (⊑_refl x)

pub ⊑_trans : {x y z : List ℕ} → x ⊑ y → y ⊑ z → x ⊑ z
⊑_trans done k = done
⊑_trans (step h) (step k) = step (⊑_trans h k)

-- the first letters are equal, and the rest is a prefix of the rest
pub ⊑-parts : {a b : ℕ} {x y : List ℕ} → (a ∷ x) ⊑ (b ∷ y) → (a ≡ b) × (x ⊑ y)
⊑-parts (step h) = (refl, h)

pub ⊑-length : {x y : List ℕ} → x ⊑ y → length x ≤ length y
⊑-length done = zero-le
⊑-length (step h) = suc-le-suc (⊑-length h)

-- a prefix that is no shorter is the whole word
pub ⊑-whole : {x y : List ℕ} → x ⊑ y → length y ≤ length x → x ≡ y
⊑-whole {y = []} done l = refl
⊑-whole {y = b ∷ y} done l = absurd (omega arith)
⊑-whole (step {a = a} h) l = ap (λ (t : List ℕ). a ∷ t) (⊑-whole h (omega arith))

-- of two prefixes of one word the shorter is a prefix of the longer (source 004, Lemma 2.1)
pub ⊑-both : {x y w : List ℕ} → x ⊑ w → y ⊑ w → length x ≤ length y → x ⊑ y
⊑-both done k l = done
⊑-both (step h) done l = absurd (omega arith)
⊑-both (step h) (step k) l = step (⊑-both h k (omega arith))

-- ---- append, drop, take

pub ⊑-append : (x u : List ℕ) → x ⊑ (x ++ u)
⊑-append [] u = done
⊑-append (a ∷ x) u = step (⊑-append x u)

pub ⊑-under : (p : List ℕ) {x y : List ℕ} → x ⊑ y → (p ++ x) ⊑ (p ++ y)
⊑-under [] h = h
⊑-under (a ∷ p) h = step (⊑-under p h)

-- a prefix and what follows it
pub ⊑-split : {x y : List ℕ} → x ⊑ y → y ≡ x ++ drop (length x) y
⊑-split done = refl
⊑-split (step {a = a} h) = ap (λ (t : List ℕ). a ∷ t) (⊑-split h)

pub ⊑-drop : (i : ℕ) {x y : List ℕ} → x ⊑ y → drop i x ⊑ drop i y
⊑-drop zero h = h
⊑-drop (suc i) done = done
⊑-drop (suc i) (step h) = ⊑-drop i h

pub take-⊑ : (n : ℕ) (w : List ℕ) → take n w ⊑ w
take-⊑ n w = rw (take-append-drop n w) at (⊑-append (take n w) (drop n w))

pub take-⊑-take : (m n : ℕ) (w : List ℕ) → m ≤ n → take m w ⊑ take n w
take-⊑-take m n w l = rw (take-take m n w l) at (take-⊑ m (take n w))

-- ---- letters

pub ⊑-next : {x y : List ℕ} → x ⊑ y → length x < length y → (x ++ get_or y (length x) 0 ∷ []) ⊑ y
⊑-next {y = []} done l = absurd (omega arith)
⊑-next {y = b ∷ y} done l = step done
⊑-next (step h) l = step (⊑-next h (omega arith))

pub take-⊑-next : (k n : ℕ) (w : List ℕ) → k < n → n ≤ length w → (take k w ++ get_or w k 0 ∷ []) ⊑ take n w
take-⊑-next k n w l h = rw (take-suc w k 0 (omega arith)) at (take-⊑-take (suc k) n w l)

pub ⊑-letters : (x y : List ℕ) → length x ≤ length y → ((t : ℕ) → t < length x → get_or x t 0 ≡ get_or y t 0) → x ⊑ y
⊑-letters [] y l e = done
⊑-letters (a ∷ x) [] l e = absurd (omega arith)
⊑-letters (a ∷ x) (b ∷ y) l e = rw (← e 0 (omega arith)) (step (⊑-letters x y (omega arith) (λ t l. e (suc t) (omega arith))))
