-- THEOREMS extension-is, extension-only: failing_length, prefix_length and border_length of a nonempty word that is not inverse Lyndon are L, |p| and |r|
-- as paper 01 describes them, and no other numbers are.
use Rattle.std.specs.Prelude.{◌≡◌, refl, List, [], ◌∷◌, ◌++◌, ℕ, suc, ◌+◌, ◌-◌, ◌≤◌, ◌<◌, length, take, drop, get_or}
use Rattle.std.proofs.Common.{ap, sym, ◌∙◌, arith, length-append, length-drop, take-add, take-suc, take_at, drop_at, drop-cons, length-take-le}
use Rattle.words.specs.Words.{InverseLyndon}
use Rattle.words.specs.Factorizations.{failing_length, border_length, prefix_length}
use Rattle.theory.specs.Statements.{BorderedBy, bordered, BoundedExtension}
use Rattle.theory.specs.Orders.Decisions.{neither-less}
use Rattle.theory.specs.Icfl.Failing.{Failing, failing-is, failing-not, failing-unique}
use Rattle.theory.specs.Icfl.BorderLength.{FailingBorder, least-border-is, prefix-length}

-- words of equal lengths at the front of equal words
fronts : (a b c d : List ℕ) → length a ≡ length c → a ++ b ≡ c ++ d → (a ≡ c) × (b ≡ d)
fronts a b c d l e = (
  sym (take_at a b (length c) l) ∙ (ap (λ (t : List ℕ). take (length c) t) e ∙ take_at c d (length c) refl),
  sym (drop_at a b (length c) l) ∙ (ap (λ (t : List ℕ). drop (length c) t) e ∙ drop_at c d (length c) refl),
)

-- the first k + 1 + m + k + 1 letters, in five parts
module _ (w : List ℕ) (k m : ℕ) (s : suc (k + suc m + k) ≤ length w) where
  five-parts : take (suc (k + suc m + k)) w ≡ take k w ++ get_or w k 0 ∷ take m (drop (suc k) w) ++ take k (drop (k + suc m) w) ++ get_or w (k + suc m + k) 0 ∷ []
  five-parts =
      rw (take-suc w (k + suc m + k) 0 (omega arith), take-add (k + suc m) k w, take-add k (suc m) w, drop-cons w k 0 (omega arith)) refl

  -- other parts of these lengths are the same ones
  parts_are : (r u : List ℕ) (a b : ℕ) → length r ≡ k → length u ≡ m → take (suc (k + suc m + k)) w ≡ r ++ a ∷ u ++ r ++ b ∷ []
      → (take k w ≡ take k (drop (k + suc m) w)) × (get_or w k 0 ≡ a) × (get_or w (k + suc m + k) 0 ≡ b)
  parts_are r u a b x y e =
      let size-r : length (take k w) ≡ k = length-take-le k w (omega arith) in
      let size-u : length (take m (drop (suc k) w)) ≡ m = length-take-le m (drop (suc k) w) (rw length-drop (omega arith)) in
      let size : length (take k (drop (k + suc m) w)) ≡ k = length-take-le k (drop (k + suc m) w) (rw length-drop (omega arith)) in
      let before-b = fronts (take k w ++ get_or w k 0 ∷ take m (drop (suc k) w) ++ take k (drop (k + suc m) w)) _ (r ++ a ∷ u ++ r) _
      (simp length-append (rw (size-r, size-u, size, x, y) refl)) (sym five-parts ∙ e) in
      let before-r = fronts (take k w ++ get_or w k 0 ∷ take m (drop (suc k) w)) _ (r ++ a ∷ u) _
      (simp length-append (rw (size-r, size-u, x, y) refl)) before-b.0 in
      let before-a = fronts (take k w) _ r _ (size-r ∙ sym x) before-r.0 in
      let same-a : get_or w k 0 ≡ a = ap (λ (t : List ℕ). get_or t 0 0) before-a.1 in
      let same-b : get_or w (k + suc m + k) 0 ≡ b = ap (λ (t : List ℕ). get_or t 0 0) before-b.1 in
      (before-a.0 ∙ sym before-r.1, same-a, same-b)

-- by letters and by parts, the same
module _ (w : List ℕ) (l k : ℕ) (s : l ≤ length w) where
  by_parts : FailingBorder w l k → BorderedBy k (take l w)
  by_parts b =
      let m : ℕ = l - (k + (k + 2)) in
      let sum : suc (k + suc m + k) ≡ l = omega (arith, b.0) in
      let place : k + suc m ≡ l - 1 - k = omega (arith, b.0) in
      let last : k + suc m + k ≡ l - 1 = omega (arith, b.0) in
      bordered (take k w) (take m (drop (suc k) w)) (get_or w k 0) (get_or w (l - 1) 0)
      (rw (sum, last, place, ← b.1.0) at (five-parts w k m (omega (arith, b.0, s))))
      b.1.1
      (length-take-le k w (omega (arith, b.0, s)))

  by-letters : BorderedBy k (take l w) → FailingBorder w l k
  by-letters (bordered r u a b e h x) =
      let m : ℕ = length u in
      let whole : length (take l w) ≡ length r + suc m + length r + 1 = ap length e ∙ simp length-append refl in
      let sum : suc (k + suc m + k) ≡ l = omega (arith, length-take-le l w s, whole, x) in
      let place : k + suc m ≡ l - 1 - k = omega (arith, sum) in
      let last : k + suc m + k ≡ l - 1 = omega (arith, sum) in
      let same = parts_are w k m (omega (arith, sum, s)) r u a b x refl (rw sum e) in
      (omega (arith, sum), (rw place at same.0, omega (arith, h, same.1, rw last at same.2)))

pub extension-is : (w : List ℕ) → 0 < length w → ¬ InverseLyndon w → BoundedExtension w (failing_length w) (prefix_length w) (border_length w)
extension-is w s n =
    let x = failing-is w s n in
    let y = least-border-is w x in
    record {
      positive = x.positive;
      inside = x.inside;
      fails = x.fails;
      shortest = x.before;
      written = by_parts w (failing_length w) (border_length w) x.inside y.border;
      least = λ k b c. y.none k b (by-letters w (failing_length w) k x.inside c);
      before = prefix-length w;
    }

-- ---- no other numbers

module _ (w : List ℕ) (l p r : ℕ) (e : BoundedExtension w l p r) where
  failing : Failing w l
  failing = record { positive = e.positive; inside = e.inside; fails = e.fails; before = e.shortest }

  pub extension-not : ¬ InverseLyndon w
  extension-not = failing-not failing

  pub extension-only : (l ≡ failing_length w) × (p ≡ prefix_length w) × (r ≡ border_length w)
  extension-only =
      let same-l : failing_length w ≡ l = failing-unique w l failing in
      let y = least-border-is w (rw same-l failing) in
      let border : FailingBorder w (failing_length w) r = rw same-l (by-letters w l r e.inside e.written) in
      let other : BorderedBy (border_length w) (take l w) = by_parts w l (border_length w) e.inside (rw same-l at y.border) in
      let same-r : r ≡ border_length w = neither-less (λ b. y.none r b border) (λ b. e.least (border_length w) b other) in
      (sym same-l, e.before ∙ rw (← same-l, same-r) (sym (prefix-length w)), same-r)
