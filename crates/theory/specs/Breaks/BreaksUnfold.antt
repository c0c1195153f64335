-- The bound of breaks_within does not matter: an inverse Lyndon word has no break (breaks-whole), any other one its first step's and then those of the rest
-- (breaks-step).
use Rattle.std.specs.Prelude.{◌≡◌, refl, Bool, true, false, List, [], ◌∷◌, ℕ, zero, suc, ◌+◌, ◌≤◌, ◌<◌, length, drop}
use Rattle.std.proofs.Common.{ap, ◌∙◌, arith, le_refl, length-drop}
use Rattle.words.specs.Words.{InverseLyndon}
use Rattle.words.specs.Factorizations.{first_break, breaks_within, breaks_from, prefix_length}
use Rattle.words.specs.declared.Fate.{Fate}
use Rattle.words.specs.declared.Break.{Break}
use Rattle.theory.specs.Orders.Decisions.{Decides, holds, fails}
use Rattle.theory.specs.Lyndon.WordTests.{inverse-lyndon-test}
use Rattle.theory.specs.Icfl.BorderLength.{step_is}
use Rattle.theory.specs.Icfl.IcflFactors.{prefix-positive}

abbrev pub first_fate : List ℕ → Fate
first_fate w = (first_break 0 w).fate

-- what breaks_within gives for a nonempty word, by the test's outcome
within-whole : (k i : ℕ) (w : List ℕ) → InverseLyndon w → breaks_within k i w ≡ []
unfolding breaks_within
within-whole zero i w h = refl
within-whole (suc k) i [] h = refl
within-whole (suc k) i (a ∷ w) h = go (inverse-lyndon-test (a ∷ w))
  where
    p : ℕ
    p = prefix_length (a ∷ w)

    go : {t : Bool} → Decides (InverseLyndon (a ∷ w)) t
        → ◌≡◌ {A = List Break} (elim t [ true ↦ [] | false ↦ first_break i (a ∷ w) ∷ breaks_within k (i + p) (drop p (a ∷ w)) ]) []
    go (holds x) = refl
    go (fails x) = absurd (x h)

within_step : (k i : ℕ) (w : List ℕ) → 0 < length w → ¬ InverseLyndon w
    → breaks_within (suc k) i w ≡ first_break i w ∷ breaks_within k (i + prefix_length w) (drop (prefix_length w) w)
unfolding breaks_within
within_step k i [] l n = absurd (omega arith)
within_step k i (a ∷ w) l n = go (inverse-lyndon-test (a ∷ w))
  where
    rest : List Break
    rest = first_break i (a ∷ w) ∷ breaks_within k (i + prefix_length (a ∷ w)) (drop (prefix_length (a ∷ w)) (a ∷ w))

    go : {t : Bool} → Decides (InverseLyndon (a ∷ w)) t → (elim t [ true ↦ [] | false ↦ rest ]) ≡ rest
    go (holds x) = absurd (n x)
    go (fails x) = refl

-- any bound that is not below the length will do
within-enough : (k l i : ℕ) (w : List ℕ) → length w ≤ k → length w ≤ l → breaks_within k i w ≡ breaks_within l i w
unfolding breaks_within
within-enough zero zero i w x y = refl
within-enough zero (suc l) i [] x y = refl
within-enough zero (suc l) i (a ∷ w) x y = absurd (omega arith)
within-enough (suc k) zero i [] x y = refl
within-enough (suc k) zero i (a ∷ w) x y = absurd (omega arith)
within-enough (suc k) (suc l) i [] x y = refl
within-enough (suc k) (suc l) i (a ∷ w) x y = go (inverse-lyndon-test (a ∷ w)) (λ j v. within-enough k l j v)
  where
    p : ℕ
    p = prefix_length (a ∷ w)

    go : {t : Bool} → Decides (InverseLyndon (a ∷ w)) t → ((j : ℕ) (v : List ℕ) → length v ≤ k → length v ≤ l → breaks_within k j v ≡ breaks_within l j v)
        → ◌≡◌ {A = List Break} (elim t [ true ↦ [] | false ↦ first_break i (a ∷ w) ∷ breaks_within k (i + p) (drop p (a ∷ w)) ])
        (elim t [ true ↦ [] | false ↦ first_break i (a ∷ w) ∷ breaks_within l (i + p) (drop p (a ∷ w)) ])
    go (holds h) next = refl
    go (fails h) next =
        let some : 0 < p = prefix-positive (a ∷ w) (step_is (a ∷ w) (omega arith) h) in
        ap (λ (bs : List Break). first_break i (a ∷ w) ∷ bs)
        (next (i + p) (drop p (a ∷ w)) (rw length-drop (omega (arith, some))) (rw length-drop (omega (arith, some))))

pub breaks-whole : (i : ℕ) (w : List ℕ) → InverseLyndon w → breaks_from i w ≡ []
unfolding breaks_from
breaks-whole i w h = within-whole (length w) i w h

pub breaks-step : (i : ℕ) (w : List ℕ) → 0 < length w → ¬ InverseLyndon w
    → breaks_from i w ≡ first_break i w ∷ breaks_from (i + prefix_length w) (drop (prefix_length w) w)
unfolding breaks_from
breaks-step i w l n =
    let some : 0 < prefix_length w = prefix-positive w (step_is w l n) in
    within-enough (length w) (suc (length w)) i w (le_refl _) (omega arith)
    ∙ (within_step (length w) i w l n
    ∙ ap (λ (bs : List Break). first_break i w ∷ bs)
    (within-enough (length w) (length (drop (prefix_length w) w)) (i + prefix_length w) (drop (prefix_length w) w) (rw length-drop (omega arith)) (le_refl _)))
