-- What the check of line 4 of the runs asks and promises. No call's promise cites this file.
use Rattle.std.specs.Prelude.{List, ℕ, ◌≤◌, length}
use Rattle.words.specs.Words.{most_letters}
use Rattle.checks.specs.Lines.{Accepted}

-- a record that was accepted, and the entries to work in
pub record RoomAsked (w longest : List ℕ) : Type 0 where
  pub accepted : Accepted w
  pub work : most_letters ≤ length longest
