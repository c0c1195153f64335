-- Line 7, its ends: a list of ends passes just where it is not empty and rises from 0 to the length (ends-test).
use mathlib.Core.Path.{◌≡◌, refl, ap}
use mathlib.Core.Bool.{Bool, true, false, not, ◌&&◌, ◌||◌}
use mathlib.Core.List.{List, [], ◌∷◌}
use Prim.Native.Nat.{ℕ, suc, ◌<◌}
use native.Mathlib.Omega.{arith}
use lib.ListN.{length}
use lib.Dec.{eqb}
use Rattle.theory.specs.Orders.Decisions.{Decides, holds, fails, leb-test, eqb-test, decides-map, decides-true}
use Rattle.theory.specs.Places.EndsRise.{Rises, done, more}
use Rattle.theory.specs.Places.EndsRise.{rises-head, rises-tail, rises-end}
use Rattle.conditions.specs.Conditions.{rising, last_of, are_faulty_ends}

-- ---- the definition decides it

rises-test : (n a : ℕ) (es : List ℕ) → Decides (Rises n a es) (rising (a ∷ es) && eqb (last_of a es) n)
unfolding rising last_of
rises-test n a [] = decides-map (λ e. done e) (λ r. rises-end r) (eqb-test a n)
rises-test n a (b ∷ es) = go (leb-test (suc a) b) (rises-test n b es)
  where
    go : {t : Bool} → Decides (a < b) t → Decides (Rises n b es) (rising (b ∷ es) && eqb (last_of b es) n)
        → Decides (Rises n a (b ∷ es)) ((elim t [ true ↦ rising (b ∷ es) | false ↦ false ]) && eqb (last_of b es) n)
    go (holds h) d = decides-map (λ r. more h r) rises-tail d
    go (fails h) d = fails (λ r. h (rises-head r))

-- a list of ends for n letters
pub record EndsOf (n : ℕ) (es : List ℕ) : Type 0 where
  pub some : 0 < length es
  pub rises : Rises n 0 es

pub ends-test : (es : List ℕ) (n : ℕ) → Decides (EndsOf n es) (not (are_faulty_ends es n))
unfolding are_faulty_ends
ends-test [] n = fails (λ v. omega (arith, v.some))
ends-test (e ∷ es) n = go (rising (e ∷ es)) (eqb (last_of e es) n) (eqb-test e 0) (rises-test n e es)
  where
    go : {s : Bool} (r l : Bool) → Decides (e ≡ 0) s → Decides (Rises n e es) (r && l) → Decides (EndsOf n (e ∷ es)) (not (s || (not r || not l)))
    go r l (holds z) d = fails (λ v. omega (arith, rises-head v.rises))
    go true true (fails z) (holds m) = holds (record { some = omega arith; rises = let h : 0 < e = omega arith in more h m })
    go true false (fails z) (fails m) = fails (λ v. m (rises-tail v.rises))
    go false l (fails z) (fails m) = fails (λ v. m (rises-tail v.rises))

-- what is decided is what the line says
faulty-is : {P : Type 0} (t u : Bool) → Decides P (not t) → Decides P (not u) → u ≡ t
faulty-is true true (fails p) (fails q) = refl
faulty-is true false (fails p) (holds q) = absurd (p q)
faulty-is false true (holds p) (fails q) = absurd (q p)
faulty-is false false (holds p) (holds q) = refl

pub ends-accepted : (es : List ℕ) (n : ℕ) → are_faulty_ends es n ≡ false → EndsOf n es
ends-accepted es n e = decides-true (ends-test es n) (ap not e)

pub ends-pass : (es : List ℕ) (n : ℕ) → EndsOf n es → are_faulty_ends es n ≡ false
ends-pass es n v = faulty-is false (are_faulty_ends es n) (holds v) (ends-test es n)
