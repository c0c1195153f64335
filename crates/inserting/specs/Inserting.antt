-- What the functions that keep the runs of the result buffer in order ask and promise. No call's promise cites this file.
use Rattle.std.specs.Prelude.{◌<◌, ◌≡◌, List, [], ◌∷◌, ◌++◌, ℕ, zero, suc, ◌+◌, ◌*◌, ◌≤◌, length, take, drop, get_or}
use Rattle.words.specs.Runs.{Triple}
use Rattle.theory.specs.Repetitions.Insertion.{insert_run, InOrder}
use Rattle.inserting.specs.declared.Run.{Run}

-- a run as the definitions have it
abbrev pub triple : Run → Triple
triple r = (r.first, r.end, r.period)

-- the run whose three entries stand from entry `at` on
abbrev pub run_from : List ℕ → ℕ → Triple
run_from xs at = (get_or xs at 0, get_or xs (at + 1) 0, get_or xs (at + 2) 0)

-- the first c runs of a buffer
unfoldable pub triples : ℕ → List ℕ → List Triple
triples zero xs = []
triples (suc c) xs = (get_or xs 0 0, get_or xs 1 0, get_or xs 2 0) ∷ triples c (drop 3 xs)

-- the first runs are in order, and there is room for one more
pub record InsertRoom (xs : List ℕ) (count : ℕ) : Type 0 where
  pub room : 3 * count + 3 ≤ length xs
  pub in_order : InOrder (triples count xs)

-- place k is that of a run among the first ones
pub record Belongs (xs : List ℕ) (count : ℕ) (r : Triple) (k : ℕ) : Type 0 where
  pub inside : k ≤ count
  pub belongs : insert_run r (triples count xs) ≡ take k (triples count xs) ++ r ∷ drop k (triples count xs)

-- a run whose three entries fit into 16 bits
pub record RunFits (r : Run) : Type 0 where
  pub first_fits : r.first < 65536
  pub end_fits : r.end < 65536
  pub period-fits : r.period < 65536

-- a run to be put among the first ones
pub record InsertAsked (xs : List ℕ) (count : ℕ) (r : Run) : Type 0 where
  pub room : InsertRoom xs count
  pub fits : RunFits r
