-- THEOREM runs-fewer (the "Runs" theorem). A word has fewer runs than letters: what is found at the places after the first, at most one run at each, is all
-- of them (found-sorted).
use Rattle.std.specs.Prelude.{◌≡◌, refl, ◌⊎◌}
use Rattle.std.proofs.Common.{ap, sym, subst, ◌∙◌, inl, inr}
use mathlib.Core.List.{List, [], ◌∷◌, ◌++◌, Memᴰ}
use Prim.Native.Nat.{ℕ, zero, suc, ◌+◌, ◌-◌, ◌≤◌, ◌<◌}
use native.Mathlib.Omega.{arith}
use Rattle.std.proofs.Math.Decide.{dec_lt}
use Rattle.std.proofs.Math.ListN.{length}
use Rattle.words.specs.Runs.{Triple, runs}
use Rattle.theory.specs.RunStatements.{IsRun, Rising, none, more}
use Rattle.theory.specs.Repetitions.RisingLaws.{rising-append}
use Rattle.theory.proofs.Repetitions.RunsAre.{runs-apart-keys, runs-unique}
use Rattle.theory.specs.Repetitions.TwoOrders.{UpTo}
use Rattle.theory.specs.Repetitions.Found.{FoundWith, found-with, found_period, found_at, found_up_to, found-few}
use Rattle.theory.specs.Repetitions.Serving.{Serves}
use Rattle.theory.proofs.Repetitions.Serving.{served, serves-one, serves-inside, serves-found, found-serves}
use Rattle.theory.specs.Repetitions.Insertion.{Apart, sorted, sorted-rising, sorted-member, member-sorted, sorted-length}

module _ (m : ℕ) (w : List ℕ) (b : UpTo m w) where
  -- the place that serves a run which was found
  pub record FoundBy (r : Triple) (k : ℕ) : Type 0 where
    pub place : ℕ
    pub upto : place ≤ k
    pub run : IsRun w r
    pub serves : Serves m w r place

  pub found-by : (r : Triple) (k : ℕ) → k < length w → Memᴰ r (found_up_to m w k) → FoundBy r k
  unfolding found_up_to
  found-by r zero l h = absurd (mathlib.Core.List.Memᴰ.not-nil h)
  found-by r (suc k) l h = go (mathlib.Core.List.Memᴰ.append_cases (found_up_to m w k) h) (λ x. found-by r k (omega arith) x)
    where
      go : Memᴰ r (found_up_to m w k) ⊎ Memᴰ r (found_at m w (suc k)) → (Memᴰ r (found_up_to m w k) → FoundBy r k) → FoundBy r (suc k)
      go (inl x) next = let q = next x in record { place = q.place; upto = omega (arith, q.upto); run = q.run; serves = q.serves }
      go (inr x) next =
          let q = found-serves m w b r (suc k) (omega arith) l x in
          record { place = suc k; upto = omega arith; run = q.0; serves = q.1 }

  found-has : (r : Triple) (k i : ℕ) → 0 < i → i ≤ k → Memᴰ r (found_at m w i) → Memᴰ r (found_up_to m w k)
  unfolding found_up_to
  found-has r zero i o l h = absurd (omega arith)
  found-has r (suc k) i o l h = go (dec_lt i (suc k)) (λ x. found-has r k i o x h)
    where
      go : Dec (i < suc k) → (i ≤ k → Memᴰ r (found_up_to m w k)) → Memᴰ r (found_up_to m w k ++ found_at m w (suc k))
      go (yes x) next = mathlib.Core.List.Memᴰ.append_left (found_at m w (suc k)) (next (omega arith))
      go (no x) next = let z : i ≡ suc k = omega arith in mathlib.Core.List.Memᴰ.append_right (found_up_to m w k) (subst (λ (n : ℕ). Memᴰ r (found_at m w n)) z h)

  -- no run is found twice
  found-apart : (k : ℕ) → k < length w → Rising Apart (found_up_to m w k)
  unfolding found_up_to
  found-apart zero l = none
  found-apart (suc k) l = rising-append (found-apart k (omega arith)) (alone (found-with w (suc k) (found_period m w (suc k)))) apart
    where
      alone : {rs : List Triple} → FoundWith w (suc k) (found_period m w (suc k)) rs → Rising Apart rs
      alone (FoundWith.one c) = more (λ y h. absurd (mathlib.Core.List.Memᴰ.not-nil h)) none
      alone (FoundWith.none n) = none

      apart : (r q : Triple) → Memᴰ r (found_up_to m w k) → Memᴰ q (found_at m w (suc k)) → Apart r q
      apart r q x y =
          let f : FoundBy r k = found-by r k (omega arith) x in
          let g = found-serves m w b q (suc k) (omega arith) l y in
          runs-apart-keys f.run g.0
          (λ e. omega (arith, f.upto, serves-one m w b q f.place (suc k) g.0 (subst (λ (t : Triple). Serves m w t f.place) e f.serves) g.1))

  pub found-sorted : sorted (found_up_to m w (length w - 1)) ≡ runs w
  unfolding found_up_to sorted
  found-sorted = go (dec_lt 0 (length w))
    where
      k : ℕ
      k = length w - 1

      sound : 0 < length w → (r : Triple) → Memᴰ r (sorted (found_up_to m w k)) → IsRun w r
      sound l r h = (found-by r k (omega arith) (sorted-member (found_up_to m w k) h)).run

      complete : (r : Triple) → IsRun w r → Memᴰ r (sorted (found_up_to m w k))
      complete r x =
          let q = served m w b r x in
          let i = serves-inside m w b r q.0 x q.1 in
          let here : Memᴰ r (found_at m w q.0) = rw (serves-found m w b r q.0 x q.1) (mathlib.Core.List.Memᴰ.head refl) in
          member-sorted (found_up_to m w k) (found-has r k q.0 i.0 (omega (arith, i.1)) here)

      go : Dec (0 < length w) → sorted (found_up_to m w k) ≡ runs w
      go (yes l) = runs-unique w (sorted (found_up_to m w k)) (sorted-rising (found_up_to m w k) (found-apart k (omega arith))) (sound l) complete
      go (no l) =
          let z : length w - 1 ≡ 0 = omega arith in
          rw z (runs-unique w [] none (λ r h. absurd (mathlib.Core.List.Memᴰ.not-nil h)) (λ r x. absurd (omega (arith, x.twice, x.inside, x.positive))))

  pub found-length : length (found_up_to m w (length w - 1)) ≡ length (runs w)
  found-length = sym (sorted-length (found_up_to m w (length w - 1))) ∙ ap length found-sorted

-- ---- a bound for any word: the sum of its letters

total : List ℕ → ℕ
total [] = 0
total (a ∷ w) = a + total w

up-to-total : (w : List ℕ) → UpTo (total w) w
unfolding total
up-to-total [] zero = omega arith
up-to-total [] (suc i) = omega arith
up-to-total (a ∷ w) zero = omega arith
up-to-total (a ∷ w) (suc i) = omega (arith, up-to-total w i)

pub runs-fewer : (w : List ℕ) → 0 < length w → length (runs w) < length w
runs-fewer w l =
    let b : UpTo (total w) w = up-to-total w in
    omega (arith, found-length (total w) w b, found-few (total w) w (length w - 1))
