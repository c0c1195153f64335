-- What the scan's functions ask and promise of its state; what a state means is Scanned of the theory. No call's promise cites this file.
use Rattle.std.specs.Prelude.{true, false, List, ℕ, ◌+◌, ◌≤◌, ◌<◌, length, eqb}
use Rattle.words.specs.Words.{most_letters}
use Rattle.theory.specs.Scan.Scanned.{Scanned, Stops}
use Rattle.scan.specs.declared.Scan.{Scan}

abbrev pub start_state : Scan
start_state = record { border = 0; length = 1 }

-- an equal letter makes the border longer; a smaller one leaves none
unfoldable pub step_state : Scan → ℕ → ℕ → Scan
step_state s new met = record { border = elim (eqb new met) [ true ↦ s.border + 1 | false ↦ 0 ]; length = s.length + 1 }

pub record Short (s : Scan) : Type 0 where
  pub border : s.border < most_letters
  pub letters : s.length < most_letters

-- a scan of a word that can go on
pub record Resumes (w : List ℕ) (s : Scan) : Type 0 where
  pub short : length w ≤ most_letters
  pub scanned : Scanned w s.length s.border

-- a scan that has stopped
pub record Rests (w : List ℕ) (s : Scan) : Type 0 where
  pub scanned : Scanned w s.length s.border
  pub stops : Stops w s.length s.border
