-- THEOREM cfl-in-first. A place of w is a start of its strict cut just where its suffix comes before every earlier suffix in the
-- inverse order.
use Rattle.std.specs.Prelude.{◌≡◌, ◌↔◌, ℕ, ◌≤◌, ◌<◌, length, drop}
use mathlib.Core.List.{List, ◌∷◌, Memᴰ}
use Rattle.std.proofs.Common.{arith, length-drop}
use Rattle.std.proofs.Math.Decide.{dec_lt}
use Rattle.words.specs.Words.{◌≺◌}
use Rattle.words.specs.Factorizations.{cfl_in, cfl_in_ends}
use Rattle.theory.specs.Orders.InverseLaws.{◌≼◌, ≼_refl, ≺-≼, ≼-≺}
use Rattle.theory.specs.Places.FirstSuffixes.{FirstSuffix, Boundary, boundary-first, first-boundary}
use Rattle.theory.proofs.Places.FirstSuffixes.{anti-led}
use Rattle.theory.specs.Places.Ends.{start-boundary, boundary_start}
use Rattle.theory.proofs.CflIn.CflInIs.{cfl-in-is}

pub cfl-in-boundary-first : (w : List ℕ) (e : ℕ) → Boundary e (cfl_in w) → FirstSuffix e w
cfl-in-boundary-first w e b = rw (cfl-in-is w).product at (boundary-first (anti-led (cfl-in-is w).words) b)

pub first-cfl-in-boundary : (w : List ℕ) (e : ℕ) → e ≤ length w → FirstSuffix e w → Boundary e (cfl_in w)
first-cfl-in-boundary w e l f =
    let p = (cfl-in-is w).product in
    first-boundary (cfl-in-is w).words e (rw p l) (rw p f)

pub cfl-in-first : (w : List ℕ) (e : ℕ) → e < length w → Memᴰ e (0 ∷ cfl_in_ends w) ↔ ((j : ℕ) → j < e → drop e w ≺ drop j w)
unfolding cfl_in_ends
cfl-in-first w e l = (to, from)
  where
    to : Memᴰ e (0 ∷ cfl_in_ends w) → (j : ℕ) → j < e → drop e w ≺ drop j w
    to m j b = ≼-≺ (cfl-in-boundary-first w e (start-boundary (cfl_in w) m) j (omega arith)) (λ z. omega (arith, simp length-drop at z))

    from : ((j : ℕ) → j < e → drop e w ≺ drop j w) → Memᴰ e (0 ∷ cfl_in_ends w)
    from f = boundary_start (first-cfl-in-boundary w e (omega arith) (λ j b. near j b (dec_lt j e)))
      where
        near : (j : ℕ) → j ≤ e → Dec (j < e) → drop e w ≼ drop j w
        near j b (yes c) = ≺-≼ (f j c)
        near j b (no c) = rw (let z : j ≡ e = omega arith in z) (≼_refl (drop e w))
