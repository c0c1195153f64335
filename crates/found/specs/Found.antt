-- What the functions that look for a run at a place ask and promise. No call's promise cites this file.
use Rattle.std.specs.Prelude.{Option, Some, None, List, [], ◌∷◌, ℕ, ◌+◌, ◌≤◌, ◌<◌, length}
use Rattle.words.specs.Runs.{Triple}
use Rattle.longest.specs.Longest.{LongestKnown}
use Rattle.inserting.specs.declared.Run.{Run}
use Rattle.inserting.specs.Inserting.{triple}

-- what was found, as a list of at most one run
abbrev pub found_runs : Option Run → List Triple
found_runs None = []
found_runs (Some run) = triple run ∷ []

-- the place a period on is no later than the end of the word
pub record LeftAsked (w : List ℕ) (i p : ℕ) : Type 0 where
  pub inside : i + p ≤ length w

-- the place is not the first one, and its longest Lyndon word is known
pub record PlaceKnown (w longest : List ℕ) (i : ℕ) : Type 0 where
  pub after : 0 < i
  pub known : LongestKnown w longest i
