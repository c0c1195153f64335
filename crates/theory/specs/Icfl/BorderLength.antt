-- |r| by letters, as paper 01 has it, is |r| by the order: extension-is says that failing_length, border_length and prefix_length of a
-- nonempty word that is not inverse Lyndon give an Extension. That 2|r| + 2 ≤ L is needed only here.
use Rattle.std.specs.Prelude.{◌≡◌, refl, List, ℕ, suc, ◌+◌, ◌-◌, ◌*◌, ◌≤◌, ◌<◌, length, take, drop, get_or}
use Rattle.std.proofs.Common.{sym, subst, arith, length-drop, length-take-le, get_or-take}
use Rattle.words.specs.Words.{◌≪◌, InverseLyndon}
use Rattle.words.specs.Factorizations.{is_border, failing_length, border_length, prefix_length}
use Rattle.theory.specs.Orders.PrefixLaws.{⊑_trans, ⊑-both, ⊑-whole, take-⊑}
use Rattle.theory.specs.Orders.MismatchLaws.{take-≪-larger, ≪-last}
use Rattle.theory.specs.Orders.LexLaws.{≤ₗ-not-≪}
use Rattle.theory.specs.Orders.Decisions.{Decides, decides_and, leb-test, least-unique}
use Rattle.theory.specs.Orders.OrderTests.{same_test}
use Rattle.theory.specs.Icfl.Extension.{Extension, extension-below, extension-prefix}
use Rattle.theory.specs.Icfl.Failing.{Failing, failing-is, Shortest, shortest-is, suffix-parts, extension-at}

-- "r a u r b": the first k letters return before the last of l letters, which is larger than the letter after the first k
abbrev pub FailingBorder : List ℕ → ℕ → ℕ → Type 0
FailingBorder w l k = (2 * k + 2 ≤ l) × ((take k w ≡ take k (drop (l - 1 - k) w)) × (get_or w k 0 < get_or w (l - 1) 0))

failing-border-test : (w : List ℕ) (l k : ℕ) → Decides (FailingBorder w l k) (is_border w l k)
unfolding is_border
failing-border-test w l k = decides_and (leb-test _ _) (decides_and (same_test _ _) (leb-test _ _))

module _ (w : List ℕ) (p r : ℕ) (x : Failing w (suc (p + r))) where
  place-p : suc (p + r) - 1 - r ≡ p
  place-p = omega arith

  place-b : suc (p + r) - 1 ≡ p + r
  place-b = omega arith

  -- by letters, so by the order
  failing-border-above : FailingBorder w (suc (p + r)) r → take (suc (p + r)) w ≪ drop p (take (suc (p + r)) w)
  failing-border-above k =
      let e : take r w ≡ take r (drop p w) = rw place-p at k.1.0 in
      let h : get_or w r 0 < get_or w (p + r) 0 = rw place-b at k.1.1 in
      rw (suffix-parts w p r x, ← e) (take-≪-larger r (suc (p + r)) w (omega arith) x.inside h)

  -- by the order, and shortest, so by letters
  shortest-failing-border : Shortest (take (suc (p + r)) w) r → FailingBorder w (suc (p + r)) r
  shortest-failing-border y =
      let k : Extension w (take p w) (take r (drop p w)) (get_or w (p + r) 0) (drop (suc (p + r)) w) = extension-at w p r x y in
      let size-p : length (take p w) ≡ p = length-take-le p w (omega (arith, x.inside)) in
      let size-r : length (take r (drop p w)) ≡ r = length-take-le r (drop p w) (rw length-drop (omega (arith, x.inside))) in
      let q = ≪-last (extension-prefix k) (extension-below k) in
      let l : r < p = rw (size-p, size-r) at q.0 in
      let h : get_or w r 0 < get_or w (p + r) 0 = rw (size-r, get_or-take p w r 0 l) at q.1 in
      let n : length (take r w) ≡ r = length-take-le r w (omega (arith, x.inside)) in
      let e : take r (drop p w) ≡ take r w = ⊑-whole (⊑-both (⊑_trans (extension-prefix k) (take-⊑ p w)) (take-⊑ r w) (omega arith)) (omega arith) in
      (omega arith, (rw place-p (sym e), rw place-b h))

-- the same at a length l and r < l
module _ (w : List ℕ) (l r : ℕ) (x : Failing w l) (b : r < l) where
  parts : suc (l - 1 - r + r) ≡ l
  parts = omega arith

  failing-parts : Failing w (suc (l - 1 - r + r))
  failing-parts = subst (λ (n : ℕ). Failing w n) (sym parts) x

  by_order : FailingBorder w l r → take l w ≪ drop (l - 1 - r) (take l w)
  by_order k = rw parts at (failing-border-above w (l - 1 - r) r failing-parts (subst (λ (n : ℕ). FailingBorder w n r) (sym parts) k))

  by-letters : Shortest (take l w) r → FailingBorder w l r
  by-letters y = rw parts at (shortest-failing-border w (l - 1 - r) r failing-parts (subst (λ (n : ℕ). Shortest (take n w) r) (sym parts) y))

-- the shortest by the order is the least by letters
module _ (w : List ℕ) (r : ℕ) (x : Failing w (failing_length w)) (y : Shortest (take (failing_length w) w) r) where
  size : length (take (failing_length w) w) ≡ failing_length w
  size = length-take-le (failing_length w) w x.inside

  below : r < failing_length w
  below = rw size at y.inside

  least-border : FailingBorder w (failing_length w) r
  least-border = by-letters w (failing_length w) r x below y

  none-shorter : (j : ℕ) → j < r → ¬ FailingBorder w (failing_length w) j
  none-shorter j b k = ≤ₗ-not-≪ (y.shorter (failing_length w - 1 - j) (omega (arith, size, below))) (by_order w (failing_length w) j x (omega (arith, below)) k)

  pub border-least : border_length w ≡ r
  unfolding border_length
  border-least = least-unique (λ k. FailingBorder w (failing_length w) k) (λ k. is_border w (failing_length w) k) (failing-border-test w (failing_length w))
      (failing_length w) 0 r least-border (omega arith) (omega (arith, below)) (λ j a c. none-shorter j c)

-- |r| of a word whose shortest failing prefix is known
pub record LeastBorder (w : List ℕ) (r : ℕ) : Type 0 where
  pub shortest : Shortest (take (failing_length w) w) r
  pub border : FailingBorder w (failing_length w) r
  pub none : (k : ℕ) → k < r → ¬ FailingBorder w (failing_length w) k

pub least-border-is : (w : List ℕ) → Failing w (failing_length w) → LeastBorder w (border_length w)
least-border-is w x =
    let size : length (take (failing_length w) w) ≡ failing_length w = length-take-le (failing_length w) w x.inside in
    let found = shortest-is (take (failing_length w) w) (rw size x.positive) x.fails in
    let r-is : border_length w ≡ found.0 = border-least w found.0 x found.1 in
    rw r-is (record { shortest = found.1; border = least-border w found.0 x found.1; none = none-shorter w found.0 x found.1 })

pub prefix-length : (w : List ℕ) → prefix_length w ≡ failing_length w - border_length w - 1
unfolding prefix_length
prefix-length w = refl

abbrev pub StepAt : List ℕ → ℕ → ℕ → Type 0
StepAt w p r = Extension w (take p w) (take r (drop p w)) (get_or w (p + r) 0) (drop (suc (p + r)) w)

-- what one step of the factorization is
pub record Step (w : List ℕ) : Type 0 where
  pub failing : Failing w (suc (prefix_length w + border_length w))
  pub extension : StepAt w (prefix_length w) (border_length w)

pub step_is : (w : List ℕ) → 0 < length w → ¬ InverseLyndon w → Step w
unfolding prefix_length
step_is w s n = record { failing = failing; extension = extension-at w (prefix_length w) (border_length w) failing shortest }
  where
    x : Failing w (failing_length w)
    x = failing-is w s n

    y : Shortest (take (failing_length w) w) (border_length w)
    y = (least-border-is w x).shortest

    sum : failing_length w ≡ suc (prefix_length w + border_length w)
    sum = omega (arith, rw (length-take-le (failing_length w) w x.inside) at y.inside)

    failing : Failing w (suc (prefix_length w + border_length w))
    failing = subst (λ (n : ℕ). Failing w n) sum x

    shortest : Shortest (take (suc (prefix_length w + border_length w)) w) (border_length w)
    shortest = subst (λ (n : ℕ). Shortest (take n w) (border_length w)) sum y
