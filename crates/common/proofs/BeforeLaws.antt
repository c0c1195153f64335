-- What is read of two words tells whether u comes before v in the inverse order: first letters that differ (first-decide), or the lengths where one word
-- is a prefix of the other (lengths-decide).
use mathlib.Core.Path.{◌≡◌, sym}
use mathlib.Core.List.{List}
use mathlib.Core.Bool.{Bool}
use Prim.Native.Nat.{ℕ, suc, ◌≤◌, ◌<◌, min}
use native.Mathlib.Omega.{arith}
use lib.ListN.{length, get_or}
use lib.Dec.{ltb}
use Rattle.words.specs.Words.{◌≺◌, mismatch}
use Rattle.theory.specs.Orders.InverseLaws.{won, pre, ≺-not-≼}
use Rattle.theory.specs.Orders.Decisions.{Decides, holds, fails, leb-test}
use Rattle.theory.specs.Orders.CommonLength.{Agree, matched-none, agree-sym, agree-⊑, agree-shorter, agree-≪, agree-≪-sym}

decided-by : {P Q : Type 0} {t : Bool} → (P → Q) → (¬ P → ¬ Q) → Decides P t → Decides Q t
decided-by f g (holds h) = holds (f h)
decided-by f g (fails h) = fails (g h)

-- ---- where two words part

module _ {u v : List ℕ} {l : ℕ} (g : Agree u v l) where
  -- the letters differ
  letters-decide : l < min (length u) (length v) → Decides (u ≺ v) (ltb (get_or v l 0) (get_or u l 0))
  letters-decide k = decided-by
      (λ h. mismatch (agree-≪ (agree-sym g) (omega arith) (omega arith) h))
      (λ h x. ≺-not-≼ x (won (agree-≪-sym (agree-sym g) (omega arith) (omega arith) (omega arith))))
      (leb-test (suc (get_or v l 0)) (get_or u l 0))

  -- one is a prefix of the other
  pub lengths-decide : min (length u) (length v) ≤ l → Decides (u ≺ v) (ltb (length u) (length v))
  lengths-decide k = decided-by
      (λ h. agree-shorter g (omega arith) h)
      (λ h x. ≺-not-≼ x (pre (agree-⊑ (agree-sym g) (omega arith))))
      (leb-test (suc (length u)) (length v))

-- ---- the first letters

pub first-decide : (u v : List ℕ) → 0 < length u → 0 < length v → ¬ (get_or v 0 0 ≡ get_or u 0 0) → Decides (u ≺ v) (ltb (get_or v 0 0) (get_or u 0 0))
first-decide u v p q d = letters-decide (record { matched = matched-none u v; differ = λ h k e. d (sym e) }) (omega arith)
