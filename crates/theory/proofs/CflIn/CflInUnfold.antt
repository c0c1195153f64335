-- The bound of cfl_in_within does not matter: cfl_in is the longest anti-Lyndon prefix, then cfl_in of the rest.
use Rattle.std.specs.Prelude.{◌≡◌, List, [], ◌∷◌, ℕ, ◌≤◌, ◌<◌, length, take, drop}
use Rattle.std.proofs.Common.{arith, length-drop}
use Rattle.words.specs.Factorizations.{longest_anti_lyndon, cfl_in, cfl_in_within}
use Rattle.theory.specs.Lyndon.AntiLyndonLaws.{longest-positive}
use Rattle.theory.proofs.CflIn.CflInIs.{within-cfl-in}
use Rattle.theory.proofs.CflIn.CflInUnique.{cfl-in-unique}

pub within-cfl-in-enough : (k : ℕ) (w : List ℕ) → length w ≤ k → cfl_in_within k w ≡ cfl_in w
within-cfl-in-enough k w l = cfl-in-unique w (cfl_in_within k w) (within-cfl-in k w l)

pub cfl-in-step : (w : List ℕ) → 0 < length w → cfl_in w ≡ take (longest_anti_lyndon w) w ∷ cfl_in (drop (longest_anti_lyndon w) w)
unfolding cfl_in cfl_in_within
cfl-in-step [] l = absurd (omega arith)
cfl-in-step (a ∷ w) l =
    let n : ℕ = longest_anti_lyndon (a ∷ w) in
    rw (within-cfl-in-enough (length w) (drop n (a ∷ w)) (rw length-drop (omega (arith, longest-positive (a ∷ w) (omega arith)))))
