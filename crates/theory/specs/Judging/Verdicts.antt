-- THEOREM judge-is. What the judge answers is a Verdict on the list. Of a part only the first letter is asked whether it is a mark, and beside the next one only the
-- left part: all else that marks do shows as a letter that is larger.
use Rattle.std.specs.Prelude.{◌≡◌, length, drop, get_or}
use Rattle.std.proofs.Common.{ap, sym, ◌∙◌, arith}
use mathlib.Core.List.{List, [], ◌∷◌}
use Prim.Native.Nat.{ℕ, suc, ◌≤◌, ◌<◌}
use Rattle.std.proofs.Math.Seq.{slice, slice-cons}
use Rattle.words.specs.Words.{◌≪◌, InverseLyndon}
use Rattle.theory.specs.Orders.LexLaws.{◌≤ₗ◌, ≤ₗ-not-≪}
use Rattle.theory.specs.Lyndon.WordTests.{suffix-below}
use Rattle.words.specs.Separated.{separator, Unmarked}
use Rattle.theory.specs.Stretches.Unmarked.{unmarked-empty, unmarked-cons}

-- ---- marks

-- only the first letter of an inverse Lyndon part is asked whether it is a mark
suffixes-unmarked : (a : ℕ) (x v : List ℕ) → a < separator → ((i : ℕ) → drop i v ≤ₗ (a ∷ x)) → Unmarked v
suffixes-unmarked a x [] l f = unmarked-empty
suffixes-unmarked a x (b ∷ v) l f = unmarked-cons (λ e. ≤ₗ-not-≪ (f 0) (◌≪◌.here {a = a} {b = b} (omega arith))) (suffixes-unmarked a x v l (λ i. f (suc i)))

pub unmarked-first : (a : ℕ) (v : List ℕ) → InverseLyndon (a ∷ v) → a < separator → Unmarked (a ∷ v)
unmarked-first a v k l = suffixes-unmarked a v (a ∷ v) l (suffix-below k)

module _ (w : List ℕ) (i j : ℕ) (ij : i < j) (jn : j ≤ length w) where
  pub split : slice i j w ≡ get_or w i 0 ∷ slice (suc i) j w
  split = slice-cons i j w 0 ij jn

  pub head : get_or (slice i j w) 0 0 ≡ get_or w i 0
  head = ap (λ (t : List ℕ). get_or t 0 0) split

  pub no-mark : ¬ (get_or w i 0 ≡ separator) → ¬ (slice i j w ≡ separator ∷ [])
  no-mark n z = n (sym head ∙ ap (λ (t : List ℕ). get_or t 0 0) z)

  pub part-kind : get_or w i 0 ≤ separator → ¬ (get_or w i 0 ≡ separator) → InverseLyndon (slice i j w) → Unmarked (slice i j w)
  part-kind u n k = rw split (unmarked-first (get_or w i 0) (slice (suc i) j w) (rw split at k) (omega arith))
