-- Whether a letter joins the word v after it, by what the code reads: v is empty (none-joins), it begins with that letter (same-joins), or with another
-- one (other-joins).
use mathlib.Core.Path.{◌≡◌, sym, ◌∙◌}
use mathlib.Core.List.{List, [], ◌∷◌}
use mathlib.Core.Bool.{Bool, false, not, ◌&&◌}
use Prim.Native.Nat.{ℕ, ◌<◌}
use native.Mathlib.Omega.{arith}
use native.Mathlib.Decide.{ℕ_discrete}
use borrow.Author.Tests.{le-ltb}
use lib.ListN.{length, get_or}
use lib.Dec.{ltb, eqb}
use Rattle.words.specs.Words.{done, ◌≺◌}
use Rattle.words.specs.Separated.{separator}
use Rattle.theory.specs.Orders.InverseLaws.{pre, ≺-not-≼}
use Rattle.theory.specs.Orders.Decisions.{Decides, holds, fails, decides-map, eqb-test}
use Rattle.theory.specs.Orders.CommonLength.{matched-none, matched-more}
use Rattle.common.proofs.BeforeLaws.{lengths-decide, first-decide}
use Rattle.merging.specs.Steps.{SeparatorAlone, LetterJoins}

none_after : (u v : List ℕ) → length v ≡ 0 → ¬ (u ≺ v)
none_after u [] z k = ≺-not-≼ k (pre done)
none_after u (b ∷ v) z k = absurd (omega arith)

-- a letter that is the first of v
letter-decides : (a : ℕ) (v : List ℕ) → 0 < length v → get_or v 0 0 ≡ a → Decides ((a ∷ []) ≺ v) (ltb 1 (length v))
letter-decides a v p e = lengths-decide {l = 1}
    (record { matched = matched-more (a ∷ []) v 0 (matched-none (a ∷ []) v) (omega arith) p (sym e); differ = λ h k. absurd (omega arith) })
    (omega arith)

-- ---- and it is no separator

pub none-joins : (a : ℕ) (v : List ℕ) → length v ≡ 0 → Decides (LetterJoins a v) false
none-joins a v z = fails (λ x. none_after (a ∷ []) v z x.comes)

-- the letter is the first of v
pub same-joins : (a : ℕ) (v : List ℕ) → SeparatorAlone v → 0 < length v → get_or v 0 0 ≡ a → Decides (LetterJoins a v) (ltb 1 (length v))
same-joins a v s p e = go (ℕ_discrete a separator)
  where
    go : Dec (a ≡ separator) → Decides (LetterJoins a v) (ltb 1 (length v))
    go (yes z) = rw (le-ltb 1 (length v) (s (e ∙ z))) (fails (λ x. x.other z))
    go (no n) = decides-map (λ h. record { other = n; comes = h }) (λ x. x.comes) (letter-decides a v p e)

-- it is not
pub other-joins : (a : ℕ) (v : List ℕ) → 0 < length v → ¬ (get_or v 0 0 ≡ a) → Decides (LetterJoins a v) (ltb (get_or v 0 0) a && not (eqb a separator))
other-joins a v p d = go (first-decide (a ∷ []) v (omega arith) p d) (eqb-test a separator)
  where
    go : {s t : Bool} → Decides ((a ∷ []) ≺ v) s → Decides (a ≡ separator) t → Decides (LetterJoins a v) (s && not t)
    go (holds h) (holds e) = fails (λ x. x.other e)
    go (holds h) (fails n) = holds (record { other = n; comes = h })
    go (fails h) t = fails (λ x. h x.comes)
