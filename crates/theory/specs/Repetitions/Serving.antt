-- THEOREM served, serves-one. Every run has a place that serves it, and no other does: the place after its first one if the period is 1; else the one among
-- its first places at which the longest Lyndon word of an order has the period as its length, the order being that in which the run breaks off (the inverse
-- one, if the run ends the word). What is found at a place is the run that the place serves (serves-found, found-serves): so a place serves one run at
-- most.
use Rattle.std.specs.Prelude.{◌≡◌, ℕ, ◌+◌, ◌≤◌, ◌<◌, length}
use mathlib.Core.List.{List}
use Rattle.words.specs.Runs.{Triple}
use Rattle.theory.specs.Repetitions.RunSuffixes.{entry_at}
use Rattle.theory.specs.Repetitions.TwoOrders.{reversed}

pub data Serves (m : ℕ) (w : List ℕ) (r : Triple) (i : ℕ) : Type 0 where
  by-letter : r.2 ≡ 1 → i ≡ r.0 + 1 → Serves m w r i
  by-inverse : 1 < r.2 → r.0 < i → i ≤ r.0 + r.2 → entry_at w i ≡ r.2 → Serves m w r i
  by-natural : 1 < r.2 → r.0 < i → i ≤ r.0 + r.2 → entry_at (reversed m w) i ≡ r.2 → r.1 < length w → Serves m w r i
