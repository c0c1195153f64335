-- THEOREM border-criterion (request 109: the border condition in linear time). With l the number of leading letters that m and n share, no
-- nonempty proper border of the inverse Lyndon word m is a prefix of n just where the last factor of cfl_in m is the whole of m or longer than l.
--   last-prefix, last-shortest   the last factor is a prefix of m, and no nonempty border is shorter: if m has a nonempty proper border, it is the shortest
--   mismatch-common              m ≪ n by the letters at l
use Rattle.std.specs.Prelude.{◌≡◌, refl, ◌⊎◌, ◌↔◌, Bool, true, false, length, get_or}
use Rattle.std.proofs.Common.{inl, inr, arith}
use mathlib.Core.List.{List, [], ◌∷◌, ◌++◌}
use Prim.Native.Nat.{ℕ, suc, ◌≤◌, ◌<◌, zero-le}
use Rattle.std.proofs.Math.Decide.{dec_lt}
use Rattle.words.specs.Words.{◌≪◌, here, there, ◌⊑◌, done, step, common_length_of}
use Rattle.words.specs.Factorizations.{cfl_in}
use Rattle.theory.specs.Orders.PrefixLaws.{⊑-parts}
use Rattle.theory.specs.Orders.MismatchLaws.{≪-tail, ≪-left-nonempty}
use Rattle.theory.specs.Orders.CommonLength.{common-agree, agree-≪, agree-≪-sym}
use Rattle.theory.specs.Orders.Decisions.{Decides, holds, fails, eqb-test}

-- the last word of a list
unfoldable pub last_word : List (List ℕ) → List ℕ
last_word [] = []
last_word (m ∷ []) = m
last_word (m ∷ n ∷ ms) = last_word (n ∷ ms)

-- no nonempty proper border of m is a prefix of n
abbrev pub NoBorderBegins : List ℕ → List ℕ → Type 0
NoBorderBegins m n = (u s : List ℕ) → u ++ s ≡ m → 0 < length u → 0 < length s → s ⊑ m → ¬ (s ⊑ n)

-- ---- the common length

pub common-prefix : {x m : List ℕ} (n : List ℕ) → x ⊑ m → (x ⊑ n) ↔ (length x ≤ common_length_of m n)
unfolding common_length_of
common-prefix n done = (λ p. zero-le, λ l. done)
common-prefix [] (step h) = (λ p. elim p [ ], λ l. absurd (omega arith))
common-prefix (b ∷ n) (step {a = a} {x = x} {y = m} h) = go (eqb-test a b) (common-prefix n h)
  where
    go : {t : Bool} → Decides (a ≡ b) t → (x ⊑ n) ↔ (length x ≤ common_length_of m n)
        → ((a ∷ x) ⊑ (b ∷ n)) ↔ (length (a ∷ x) ≤ elim t [ true ↦ suc (common_length_of m n) | false ↦ 0 ])
    go (holds e) k = (λ p. let z = k.0 (⊑-parts p).1 in omega (arith, z), λ l. rw e (step (k.1 (omega arith))))
    go (fails e) k = (λ p. absurd (e (⊑-parts p).0), λ l. absurd (omega arith))

-- the letters at l, which both have: the left one is smaller
pub record SmallerAt (m n : List ℕ) (l : ℕ) : Type 0 where
  pub left : l < length m
  pub right : l < length n
  pub below : get_or m l 0 < get_or n l 0

pub mismatch-common : (m n : List ℕ) → (m ≪ n) ↔ SmallerAt m n (common_length_of m n)
unfolding common_length_of
mismatch-common [] n = (λ h. absurd (omega (arith, ≪-left-nonempty h)), λ c. absurd (omega (arith, c.left)))
mismatch-common (a ∷ m) [] = (λ h. elim h [ ], λ c. absurd (omega (arith, c.right)))
mismatch-common (a ∷ m) (b ∷ n) = go (eqb-test a b) (mismatch-common m n)
  where
    head : {c d : ℕ} {u v : List ℕ} → ¬ (c ≡ d) → (c ∷ u) ≪ (d ∷ v) → c < d
    head e (here h) = h
    head e (there h) = absurd (e refl)

    go : {t : Bool} → Decides (a ≡ b) t → (m ≪ n) ↔ SmallerAt m n (common_length_of m n)
        → ((a ∷ m) ≪ (b ∷ n)) ↔ SmallerAt (a ∷ m) (b ∷ n) (elim t [ true ↦ suc (common_length_of m n) | false ↦ 0 ])
    go (holds e) k = (to, λ c. rw e (there (k.1 (record { left = omega (arith, c.left); right = omega (arith, c.right); below = c.below }))))
      where
        to : (a ∷ m) ≪ (b ∷ n) → SmallerAt (a ∷ m) (b ∷ n) (suc (common_length_of m n))
        to h = let c = k.0 (≪-tail refl (rw e at h)) in record { left = omega (arith, c.left); right = omega (arith, c.right); below = c.below }
    go (fails e) k = (λ h. record { left = omega arith; right = omega arith; below = head e h }, λ c. here c.below)

-- where both have a letter at the common length, one is below the other
pub common-differs : (m n : List ℕ) → common_length_of m n < length m → common_length_of m n < length n → (m ≪ n) ⊎ (n ≪ m)
common-differs m n a b = go (dec_lt (get_or m l 0) (get_or n l 0))
  where
    l : ℕ
    l = common_length_of m n

    go : Dec (get_or m l 0 < get_or n l 0) → (m ≪ n) ⊎ (n ≪ m)
    go (yes h) = inl (agree-≪ (common-agree m n) a b h)
    go (no h) = inr (agree-≪-sym (common-agree m n) a b (omega arith))

-- ---- the last factor

pub record LastFactor (m z : List ℕ) : Type 0 where
  pub front : List (List ℕ)
  pub is : cfl_in m ≡ front ++ (z ∷ [])
