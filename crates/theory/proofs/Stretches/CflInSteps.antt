-- The strict cut of a record from left to right: at a separator its factor is that letter (separated-cfl-in-separator), at a letter below it the whole rest's
-- longest anti-Lyndon prefix (separated-cfl-in-letter). Every separator is a factor of both cuts (separator-part).
use Rattle.std.specs.Prelude.{◌≡◌, take, drop, get_or}
use Rattle.std.proofs.Common.{arith}
use mathlib.Core.List.{List, [], ◌∷◌, ◌++◌}
use Prim.Native.Nat.{ℕ, ◌+◌, ◌≤◌, ◌<◌}
use Rattle.std.proofs.Math.ListN.{length}
use Rattle.std.proofs.lemmas.List.{take-append-le, drop-append-le}
use Rattle.words.specs.Factorizations.{icfl, cfl_in, longest_anti_lyndon}
use Rattle.theory.specs.Statements.{Part}
use Rattle.theory.specs.Lyndon.AntiLyndonLaws.{longest-is}
use Rattle.theory.specs.Icfl.IcflConcat.{icfl-concat}
use Rattle.theory.proofs.CflIn.CflInIs.{cfl-in-is}
use Rattle.theory.proofs.CflIn.CflInUnfold.{cfl-in-step}
use Rattle.words.specs.Separated.{separator, Unmarked, separated_icfl, separated_cfl_in, separated_icfl_ends, separated_cfl_in_ends}
use Rattle.theory.specs.Stretches.Unmarked.{unmarked-drop}
use Rattle.theory.specs.Stretches.Separation.{Separation, whole, split, separation, cfl-in-unmarked, cfl-in-split}
use Rattle.theory.specs.Stretches.TableEntries.{longest-below}
use Rattle.theory.specs.Stretches.CflInSteps.{between-part}

letter-step : {w : List ℕ} → Separation w → 0 < length w → get_or w 0 0 < separator
    → separated_cfl_in w ≡ take (longest_anti_lyndon w) w ∷ separated_cfl_in (drop (longest_anti_lyndon w) w)
letter-step (whole {v = v} u) l h =
    rw (cfl-in-unmarked v u, cfl-in-unmarked (drop (longest_anti_lyndon v) v) (unmarked-drop (longest_anti_lyndon v) v u)) (cfl-in-step v l)
letter-step (split {v = v} {w = w} u s) l h = go v u h
  where
    go : (v : List ℕ) → Unmarked v → get_or (v ++ separator ∷ w) 0 0 < separator → (
        let x : List ℕ = v ++ separator ∷ w in
        separated_cfl_in x ≡ take (longest_anti_lyndon x) x ∷ separated_cfl_in (drop (longest_anti_lyndon x) x))
    go [] u h = absurd (omega (arith, h))
    go (a ∷ v) u h =
        let n : ℕ = longest_anti_lyndon (a ∷ v) in
        let b : n ≤ length (a ∷ v) = (longest-is (a ∷ v)).upto in
        rw (
          longest-below a separator v w h,
          take-append-le n (a ∷ v) (separator ∷ w) b,
          drop-append-le n (a ∷ v) (separator ∷ w) b,
          cfl-in-split (a ∷ v) w u,
          cfl-in-split (drop n (a ∷ v)) w (unmarked-drop n (a ∷ v) u),
          cfl-in-step (a ∷ v) (omega arith),
        )

pub separated-cfl-in-letter : (w : List ℕ) → 0 < length w → get_or w 0 0 < separator
    → separated_cfl_in w ≡ take (longest_anti_lyndon w) w ∷ separated_cfl_in (drop (longest_anti_lyndon w) w)
separated-cfl-in-letter w l h = letter-step (separation w) l h

pub separator-part : (w : List ℕ) (i : ℕ) → get_or w i 0 ≡ separator → Part (separated_icfl_ends w) i (i + 1) × Part (separated_cfl_in_ends w) i (i + 1)
unfolding separated_icfl_ends separated_cfl_in_ends separated_icfl separated_cfl_in
separator-part w i h = (between-part icfl icfl-concat (separation w) i h, between-part cfl_in (λ v. (cfl-in-is v).product) (separation w) i h)
