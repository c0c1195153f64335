-- The strict cut of a record from left to right: at a separator its factor is that letter (separated-cfl-in-separator), at a letter below it the whole rest's
-- longest anti-Lyndon prefix (separated-cfl-in-letter). Every separator is a factor of both cuts (separator-part).
use Rattle.std.specs.Prelude.{◌≡◌, get_or}
use Rattle.std.proofs.Common.{◌∙◌, arith}
use mathlib.Core.List.{List, [], ◌∷◌, map, flatten}
use Prim.Native.Nat.{ℕ, ◌+◌}
use Rattle.std.proofs.Math.ListN.{length, get_or-append}
use Rattle.words.specs.Factorizations.{ends_from}
use Rattle.theory.specs.Statements.{Adjacent, here, there, Part}
use Rattle.theory.specs.CflIn.CflInUnfold.{cfl-in-empty}
use Rattle.words.specs.Separated.{separator, mark, stretches, between, separated_cfl_in}
use Rattle.theory.specs.Stretches.Unmarked.{unmarked-empty, unmarked-at}
use Rattle.theory.specs.Stretches.Separation.{Separation, whole, split, between_split, cfl-in-unmarked, cfl-in-split}
use Rattle.theory.specs.Stretches.Places.{Spot, before, at, after, spot, letter-after, adjacent-past, adjacent-later}

pub separated-cfl-in-empty : separated_cfl_in [] ≡ []
separated-cfl-in-empty = cfl-in-unmarked [] unmarked-empty ∙ cfl-in-empty

pub separated-cfl-in-separator : (w : List ℕ) → separated_cfl_in (separator ∷ w) ≡ mark ∷ separated_cfl_in w
separated-cfl-in-separator w = cfl-in-split [] w unmarked-empty ∙ rw cfl-in-empty

-- ---- separators are factors

module _ (f : List ℕ → List (List ℕ)) (product : (v : List ℕ) → flatten (f v) ≡ v) where
  pub between-part : {w : List ℕ} → Separation w → (i : ℕ) → get_or w i 0 ≡ separator → Part (ends_from 0 (between mark (map f (stretches w)))) i (i + 1)
  unfolding ends_from
  between-part (whole {v = v} u) i h = absurd (unmarked-at v u i h)
  between-part (split {v = v} {w = w} u s) i h =
      rw (between_split mark f v w u) (adjacent-past 0 (f v) _ (rw (product v, none) (go (spot v i) (λ k l. between-part s k l))))
    where
      n : ℕ
      n = length v

      none : 0 + n ≡ n
      none = omega arith

      rest : List (List ℕ)
      rest = between mark (map f (stretches w))

      go : Spot v i → ((k : ℕ) → get_or w k 0 ≡ separator → Part (ends_from 0 rest) k (k + 1)) → Adjacent i (i + 1) (n ∷ (n + 1) ∷ ends_from (n + 1) rest)
      go (before l) next = absurd (unmarked-at v u i (rw (get_or-append v (separator ∷ w) 0 i l) at h))
      go (at e) next = rw e here
      go (after k e) next =
          let x = adjacent-later (n + 1) 0 rest (next k (rw (e, letter-after v w k) at h)) in
          let p : n + 1 + k ≡ i = omega arith in
          let q : n + 1 + (k + 1) ≡ i + 1 = omega arith in
          let r : n + 1 + 0 ≡ n + 1 = omega arith in
          there (rw (p, q, r) at x)
