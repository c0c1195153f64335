-- Laws of anti-Lyndon words: letters, products, and the longest anti-Lyndon prefix.
use Rattle.std.specs.Prelude.{◌≡◌, List, [], ◌∷◌, ◌++◌, Bool, true, false, ℕ, zero, suc, ◌≤◌, ◌<◌, length, take, drop}
use Rattle.std.proofs.Common.{sym, subst, arith, le_refl, length-append}
use Rattle.std.proofs.Math.Decide.{dec_lt}
use Rattle.words.specs.Words.{◌≪◌, ◌<ₗ◌, ◌≺◌, proper, prefix, mismatch, InverseLyndon, AntiLyndon}
use Rattle.words.specs.Factorizations.{longest_within, longest_anti_lyndon}
use Rattle.theory.specs.Orders.PrefixLaws.{⊑_refl, ⊑-append, ⊑-split}
use Rattle.theory.specs.Orders.MismatchLaws.{≪-trans, ≪-append, ≪-extend, ≪-under}
use Rattle.theory.specs.Orders.InverseLaws.{◌≼◌, not-≺-≼}
use Rattle.theory.specs.Orders.Decisions.{Decides, holds, fails, neither-less}
use Rattle.theory.specs.Lyndon.WordTests.{suffix-loses, anti-lyndon, anti-lyndon-test}
use Rattle.theory.specs.Lyndon.Suffixes.{Begins, first, second, begins, by_parts}

pub letter-anti-lyndon : (a : ℕ) → AntiLyndon (a ∷ [])
letter-anti-lyndon a = anti-lyndon (omega arith) (λ i p l. absurd (omega arith))

-- "Every strict word is falling"
pub anti-inverse-lyndon : {w : List ℕ} → AntiLyndon w → InverseLyndon w
anti-inverse-lyndon {w} k = record { nonempty = k.nonempty; exceeds = by_parts (λ s. s <ₗ w) w 1 (λ i p l. mismatch (suffix-loses k i p l)) }

-- ---- products

product-anti-lyndon : {u v : List ℕ} → AntiLyndon u → AntiLyndon v → v ≪ (u ++ v) → AntiLyndon (u ++ v)
product-anti-lyndon {u} {v} s t h = anti-lyndon (rw length-append (omega (arith, s.nonempty))) (λ i p l. go i p l (begins u v i))
  where
    go : (i : ℕ) → 0 < i → i < length (u ++ v) → Begins u v i → drop i (u ++ v) ≪ (u ++ v)
    go i p l (first c e) = rw e (≪-append v v (suffix-loses s i p c))
    go i p l (second k c e) = rw e (near (dec_lt 0 k))
      where
        near : Dec (0 < k) → drop k v ≪ (u ++ v)
        near (yes q) = ≪-trans (suffix-loses t k q (omega (arith, simp length-append at l))) h
        near (no q) = rw (let z : k ≡ 0 = omega arith in z) h

-- two anti-Lyndon words, the first before the second, make one
pub append-anti-lyndon : {u v : List ℕ} → AntiLyndon u → AntiLyndon v → u ≺ v → AntiLyndon (u ++ v)
append-anti-lyndon {u} {v} s t (mismatch h) = product-anti-lyndon s t (≪-extend h (⊑_refl v) (⊑-append u v))
append-anti-lyndon {u} {v} s t (prefix (proper h l)) =
    product-anti-lyndon s t (subst (λ (x : List ℕ). x ≪ (u ++ v)) (sym (⊑-split h)) (≪-under u (suffix-loses t (length u) s.nonempty l)))

-- else the second is not after the first
pub not-append : {u v : List ℕ} → AntiLyndon u → AntiLyndon v → ¬ AntiLyndon (u ++ v) → v ≼ u
not-append {u} {v} s t n = not-≺-≼ u v (λ h. n (append-anti-lyndon s t h))

-- ---- the longest anti-Lyndon prefix

pub record Longest (w : List ℕ) (k n : ℕ) : Type 0 where
  pub upto : n ≤ k
  pub word : 0 < n → AntiLyndon (take n w)
  pub longer : (j : ℕ) → n < j → j ≤ k → ¬ AntiLyndon (take j w)

within-longest : (k : ℕ) (w : List ℕ) → Longest w k (longest_within k w)
unfolding longest_within
within-longest zero w = record { upto = le_refl _; word = λ h. absurd (omega arith); longer = λ j h l. absurd (omega arith) }
within-longest (suc k) w = go (anti-lyndon-test (take (suc k) w)) (within-longest k w)
  where
    go : {t : Bool} → Decides (AntiLyndon (take (suc k) w)) t → Longest w k (longest_within k w)
        → Longest w (suc k) (elim t [ true ↦ suc k | false ↦ longest_within k w ])
    go (holds s) v = record { upto = le_refl _; word = λ h. s; longer = λ j h l. absurd (omega arith) }
    go (fails s) v = record { upto = omega arith; word = v.word; longer = λ j h l. near j h l (dec_lt k j) }
      where
        near : (j : ℕ) → longest_within k w < j → j ≤ suc k → Dec (k < j) → ¬ AntiLyndon (take j w)
        near j h l (yes b) = rw (let z : j ≡ suc k = omega arith in z) s
        near j h l (no b) = v.longer j h (omega arith)

pub longest-is : (w : List ℕ) → Longest w (length w) (longest_anti_lyndon w)
unfolding longest_anti_lyndon
longest-is w = within-longest (length w) w

pub longest-positive : (w : List ℕ) → 0 < length w → 0 < longest_anti_lyndon w
longest-positive [] l = absurd (omega arith)
longest-positive (a ∷ w) l =
    let n : ¬ (longest_anti_lyndon (a ∷ w) < 1) = λ h. (longest-is (a ∷ w)).longer 1 h (omega arith) (letter-anti-lyndon a) in
    omega arith

pub longest-unique : (w : List ℕ) (n : ℕ) → 0 < n → Longest w (length w) n → longest_anti_lyndon w ≡ n
longest-unique w n p h = go (longest-is w)
  where
    go : {m : ℕ} → Longest w (length w) m → m ≡ n
    go {m} v = neither-less (λ x. v.longer n x h.upto (h.word p)) (λ x. h.longer m x v.upto (v.word (omega arith)))
