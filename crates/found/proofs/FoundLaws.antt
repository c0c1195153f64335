-- One place, as the code looks for its run: how far the period repeats to the left (Leftwards), and what each test says of the candidate.
use mathlib.Core.Path.{◌≡◌, refl, ap, sym, ◌∙◌}
use mathlib.Core.List.{List, [], ◌∷◌}
use Prim.Native.Nat.{ℕ, ◌+◌, ◌-◌, ◌≤◌, ◌<◌, min}
use native.Mathlib.Omega.{arith}
use native.Mathlib.Decide.{ℕ_discrete}
use lib.ListN.{length, drop, get_or}
use Rattle.buffers.proofs.PartLaws.{rest, rest-is}
use Rattle.words.specs.Words.{common_length_of}
use Rattle.words.specs.Runs.{Triple, repeats_to}
use Rattle.theory.specs.Repetitions.RepeatsTo.{repeats-to-inside}
use Rattle.theory.specs.Repetitions.TwoOrders.{UpTo}
use Rattle.theory.proofs.Repetitions.TwoOrders.{longest-inside}
use Rattle.theory.specs.Repetitions.Found.{left_of, Counts, found_with, found_period}
use Rattle.theory.specs.Repetitions.Found.{EqualLeft, agree-left-is, agree-left-unique, found-one, found_none, period-same, period-other}
use Rattle.common.specs.Orders.{most_byte}

-- ---- to the left

-- the loop has passed l letters
pub record Leftwards (w : List ℕ) (i p l : ℕ) : Type 0 where
  pub near : l ≤ p + 1
  pub equals : EqualLeft w p i l

module _ {w : List ℕ} {i p l : ℕ} (g : Leftwards w i p l) where
  pub leftwards-parts : ¬ (get_or w (i - l - 1) 0 ≡ get_or w (i - l - 1 + p) 0) → l ≡ left_of w i p
  leftwards-parts d = agree-left-unique w p (p + 1) i l (record { equals = g.equals; near = g.near; stops = λ a b e. d e })

  -- the period is passed, or the first letter was met
  pub leftwards-ends : min i (p + 1) ≤ l → l ≡ left_of w i p
  leftwards-ends h = agree-left-unique w p (p + 1) i l (record { equals = g.equals; near = g.near; stops = λ a b e. absurd (omega arith) })

-- ---- the tests, with what was counted to both sides

pub repeats-to-is : (w : List ℕ) (i p : ℕ) → repeats_to w i p ≡ i + p + common_length_of (drop i w) (drop (i + p) w)
unfolding repeats_to
repeats-to-is w i p = refl

module _ (w : List ℕ) (i p : ℕ) {l r : ℕ} (le : l ≡ left_of w i p) (re : r ≡ common_length_of (rest i w) (rest (i + p) w)) where
  ends_at : repeats_to w i p ≡ i + p + r
  ends_at = repeats-to-is w i p ∙ ap (λ (n : ℕ). i + p + n) (sym (re ∙ rw (rest-is i w, rest-is (i + p) w)))

  pub right-inside : i + p ≤ length w → i + p + r ≤ length w
  right-inside d = omega (arith, ends_at, repeats-to-inside w i p d)

  pub too_short : l + r < p → [] ≡ found_with w i p
  too_short h = sym (found_none w i p (λ c. omega (arith, c.twice, ends_at)))

  pub not-counted : ¬ Counts w i (i + p + r) → [] ≡ found_with w i p
  not-counted h = sym (found_none w i p (λ c. h (rw ends_at at c.counts)))

  pub one_found : ¬ (l ≡ 0) → l ≤ p → p ≤ l + r → Counts w i (i + p + r) → ◌≡◌ {A = List Triple} ((i - l, i + p + r, p) ∷ []) (found_with w i p)
  one_found a b c d = sym (found-one w i p (record {
    some = omega arith;
    near = omega arith;
    twice = omega (arith, ends_at);
    counts = rw ends_at d;
  }) ∙ ap (λ (q : Triple). q ∷ []) (three (ap (λ (n : ℕ). i - n) (sym le)) ends_at))
    where
      three : {x y x' y' : ℕ} → x ≡ x' → y ≡ y' → ◌≡◌ {A = Triple} (x, y, p) (x', y', p)
      three h k = λ j. (h j, k j, p)

pub none_left : (w : List ℕ) (i p l : ℕ) → l ≡ left_of w i p → l ≡ 0 → [] ≡ found_with w i p
none_left w i p l le h = sym (found_none w i p (λ c. omega (arith, c.some)))

pub far-left : (w : List ℕ) (i p l : ℕ) → l ≡ left_of w i p → p < l → [] ≡ found_with w i p
far-left w i p l le h = sym (found_none w i p (λ c. omega (arith, c.near)))

-- the period tried at a place stays inside
pub period-inside : (w : List ℕ) → UpTo most_byte w → (i : ℕ) → i < length w → i + found_period most_byte w i ≤ length w
period-inside w b i l = go (ℕ_discrete (get_or w (i - 1) 0) (get_or w i 0))
  where
    go : Dec (get_or w (i - 1) 0 ≡ get_or w i 0) → i + found_period most_byte w i ≤ length w
    go (yes e) = rw (period-same most_byte w i e) (omega arith)
    go (no n) = rw (period-other most_byte w i n) (longest-inside most_byte w b i l).1

pub left-inside : (w : List ℕ) (i p : ℕ) → left_of w i p ≤ i
left-inside w i p = (agree-left-is w p (p + 1) i).equals.inside
