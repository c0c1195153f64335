-- What icfl gives, by induction along its definition: a dominated factorization of its word. The theorems icfl-concat,
-- icfl-dominated and icfl-unique are this and DominatedUnique.
use Rattle.std.specs.Prelude.{◌≡◌, refl, Bool, true, false, ℕ, zero, suc, ◌≤◌, ◌<◌, length, take, drop}
use Rattle.std.proofs.Common.{subst, arith, le_refl, length-drop, length-take-le}
use mathlib.Core.List.{List, [], ◌∷◌, flatten, append-nil}
use Rattle.words.specs.Words.{InverseLyndon}
use Rattle.words.specs.Factorizations.{icfl, icfl_within, join_first, prefix_length, border_length}
use Rattle.theory.specs.Statements.{DominatedBy, end, Linked, none, more}
use Rattle.theory.specs.Orders.Decisions.{Decides, holds, fails}
use Rattle.theory.specs.Lyndon.WordTests.{inverse-lyndon-test}
use Rattle.theory.specs.Icfl.Extension.{extension-nonempty, join-first-dominated, join-first-product}
use Rattle.theory.specs.Icfl.Failing.{rest-parts}
use Rattle.theory.specs.Icfl.BorderLength.{Step, step_is}

pub record Factors (w : List ℕ) (ms : List (List ℕ)) : Type 0 where
  pub product : flatten ms ≡ w
  pub dominated : Linked InverseLyndon DominatedBy ms

pub whole-factors : {w : List ℕ} → InverseLyndon w → Factors w (w ∷ [])
unfolding flatten
whole-factors {w} k = record { product = append-nil w; dominated = more k end none }

-- sizes at a step
module _ (w : List ℕ) (s : Step w) where
  prefix-size : length (take (prefix_length w) w) ≡ prefix_length w
  prefix-size = length-take-le (prefix_length w) w (omega (arith, s.failing.inside))

  border-size : length (take (border_length w) (drop (prefix_length w) w)) ≡ border_length w
  border-size = length-take-le (border_length w) (drop (prefix_length w) w) (rw length-drop (omega (arith, s.failing.inside)))

  pub prefix-positive : 0 < prefix_length w
  prefix-positive = rw prefix-size at (extension-nonempty s.extension)

  pub prefix-inside : prefix_length w < length w
  prefix-inside = omega (arith, s.failing.inside)

  pub step-factors : (ms : List (List ℕ)) → Factors (drop (prefix_length w) w) ms → Factors w (join_first (take (prefix_length w) w) (border_length w) ms)
  step-factors ms f =
      let e = rest-parts w (prefix_length w) (border_length w) s.failing in
      let product = subst (λ (v : List ℕ). flatten ms ≡ v) e f.product in
      record {
        product = rw border-size at (join-first-product s.extension ms product);
        dominated = rw border-size at (join-first-dominated s.extension ms f.dominated product);
      }

pub within-factors : (k : ℕ) (w : List ℕ) → length w ≤ k → Factors w (icfl_within k w)
unfolding icfl_within flatten
within-factors zero [] l = record { product = refl; dominated = none }
within-factors zero (a ∷ w) l = absurd (omega arith)
within-factors (suc k) [] l = record { product = refl; dominated = none }
within-factors (suc k) (a ∷ w) l = go (inverse-lyndon-test (a ∷ w)) (λ v. within-factors k v)
  where
    p : ℕ
    p = prefix_length (a ∷ w)

    go : {t : Bool} → Decides (InverseLyndon (a ∷ w)) t → ((v : List ℕ) → length v ≤ k → Factors v (icfl_within k v))
        → Factors (a ∷ w) (elim t [ true ↦ (a ∷ w) ∷ [] | false ↦ join_first (take p (a ∷ w)) (border_length (a ∷ w)) (icfl_within k (drop p (a ∷ w))) ])
    go (holds i) next = whole-factors i
    go (fails n) next =
        let s : Step (a ∷ w) = step_is (a ∷ w) (omega arith) n in
        step-factors (a ∷ w) s _ (next (drop p (a ∷ w)) (rw length-drop (omega (arith, prefix-positive (a ∷ w) s))))

pub icfl-factors : (w : List ℕ) → Factors w (icfl w)
unfolding icfl
icfl-factors w = within-factors (length w) w (le_refl _)
