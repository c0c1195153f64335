-- Laws of common_length_of. It is the only number l such that the first l letters of two words are equal and both do not go on with the
-- same letter (common-agree, agree-unique), whichever of the two is named first (common-sym); at that place they show which comes first
-- in ⊑, ≪ and ≺, or that they are the same.
use Rattle.std.specs.Prelude.{◌≡◌, List, [], ◌∷◌, Bool, true, false, ℕ, zero, suc, ◌+◌, ◌≤◌, ◌<◌, length, get_or}
use Rattle.std.proofs.Common.{sym, zero-le, arith}
use Rattle.std.proofs.Math.Decide.{dec_lt}
use Rattle.words.specs.Words.{◌≪◌, ◌⊑◌, ◌≺◌, proper, prefix, common_length_of}
use Rattle.theory.specs.Orders.PrefixLaws.{⊑-letters, ⊑-whole}
use Rattle.theory.specs.Orders.MismatchLaws.{≪-letters}
use Rattle.theory.specs.Orders.Decisions.{Decides, holds, fails, neither-less, eqb-test}

-- both words have l letters, and these are equal
pub record Matched (x y : List ℕ) (l : ℕ) : Type 0 where
  pub left : l ≤ length x
  pub right : l ≤ length y
  pub equal : (t : ℕ) → t < l → get_or x t 0 ≡ get_or y t 0

-- and no more of them
pub record Agree (x y : List ℕ) (l : ℕ) : Type 0 where
  pub matched : Matched x y l
  pub differ : l < length x → l < length y → ¬ (get_or x l 0 ≡ get_or y l 0)

pub matched-none : (x y : List ℕ) → Matched x y 0
matched-none x y = record { left = zero-le; right = zero-le; equal = λ t h. absurd (omega arith) }

pub matched-more : (x y : List ℕ) (l : ℕ) → Matched x y l → l < length x → l < length y → get_or x l 0 ≡ get_or y l 0 → Matched x y (l + 1)
matched-more x y l g h k e = record { left = omega arith; right = omega arith; equal = λ t b. go t b (dec_lt t l) }
  where
    go : (t : ℕ) → t < l + 1 → Dec (t < l) → get_or x t 0 ≡ get_or y t 0
    go t b (yes c) = g.equal t c
    go t b (no c) = rw (let z : t ≡ l = omega arith in z) e

pub agree-sym : {x y : List ℕ} {l : ℕ} → Agree x y l → Agree y x l
agree-sym g = record {
  matched = record { left = g.matched.right; right = g.matched.left; equal = λ t h. sym (g.matched.equal t h) };
  differ = λ h k e. g.differ k h (sym e);
}

-- ---- the definition

pub common-agree : (x y : List ℕ) → Agree x y (common_length_of x y)
unfolding common_length_of
common-agree [] y = record { matched = matched-none [] y; differ = λ h k. absurd (omega arith) }
common-agree (a ∷ x) [] = record { matched = matched-none (a ∷ x) []; differ = λ h k. absurd (omega arith) }
common-agree (a ∷ x) (b ∷ y) = go (eqb-test a b) (common-agree x y)
  where
    go : {t : Bool} → Decides (a ≡ b) t → Agree x y (common_length_of x y) → Agree (a ∷ x) (b ∷ y) (elim t [ true ↦ suc (common_length_of x y) | false ↦ 0 ])
    go (fails n) g = record { matched = matched-none (a ∷ x) (b ∷ y); differ = λ h k. n }
    go (holds e) g = record {
      matched = record {
        left = omega (arith, g.matched.left);
        right = omega (arith, g.matched.right);
        equal = λ t. elim t as (λ s. s < suc (common_length_of x y) → get_or (a ∷ x) s 0 ≡ get_or (b ∷ y) s 0) [ zero ↦ λ h. e | suc s ↦ λ h. g.matched.equal s (omega arith) ];
      };
      differ = λ h k. g.differ (omega arith) (omega arith);
    }

pub agree-unique : (x y : List ℕ) (l : ℕ) → Agree x y l → l ≡ common_length_of x y
agree-unique x y l g = go (common-agree x y)
  where
    go : {m : ℕ} → Agree x y m → l ≡ m
    go {m} k = neither-less
        (λ h. g.differ (omega (arith, k.matched.left)) (omega (arith, k.matched.right)) (k.matched.equal l h))
        (λ h. k.differ (omega (arith, g.matched.left)) (omega (arith, g.matched.right)) (g.matched.equal m h))

pub common-sym : (x y : List ℕ) → common_length_of x y ≡ common_length_of y x
common-sym x y = agree-unique y x _ (agree-sym (common-agree x y))

-- ---- the orders

module _ {x y : List ℕ} {l : ℕ} (g : Agree x y l) where
  -- x ends first, or both end
  pub agree-⊑ : length x ≤ l → x ⊑ y
  agree-⊑ e = ⊑-letters x y (omega (arith, g.matched.right)) (λ t h. g.matched.equal t (omega arith))

  pub agree_same : length x ≤ l → length y ≤ length x → x ≡ y
  agree_same e d = ⊑-whole (agree-⊑ e) (omega (arith, g.matched.right))

  pub agree-shorter : length x ≤ l → length x < length y → x ≺ y
  agree-shorter e h = prefix (proper (agree-⊑ e) h)

  -- the letters differ
  pub agree-≪ : l < length x → l < length y → get_or x l 0 < get_or y l 0 → x ≪ y
  agree-≪ m n h = ≪-letters l x y m n g.matched.equal h

  -- a letter that is not smaller is larger
  pub agree-≪-sym : l < length x → l < length y → get_or y l 0 ≤ get_or x l 0 → y ≪ x
  agree-≪-sym m n h =
      let d = g.differ m n in
      ≪-letters l y x n m (λ t k. sym (g.matched.equal t k)) (omega arith)
