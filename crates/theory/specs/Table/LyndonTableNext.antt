-- THEOREM lyndon-table-next. The entry at i is the distance from i to the next place whose suffix comes before the suffix at i in
-- the inverse order, or to the end.
use Rattle.std.specs.Prelude.{◌≡◌, ◌⊎◌, List, ℕ, ◌≤◌, ◌<◌, length, drop}
use Rattle.words.specs.Words.{◌≺◌}

-- j is the next place after i whose suffix comes before the suffix at i, or the end
pub record NextBefore (w : List ℕ) (i j : ℕ) : Type 0 where
  pub after : i < j
  pub inside : j ≤ length w
  pub stops : (j ≡ length w) ⊎ (drop j w ≺ drop i w)
  pub between : (k : ℕ) → i < k → k < j → ¬ (drop k w ≺ drop i w)
