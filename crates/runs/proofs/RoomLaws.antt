-- Line 4 of the runs: a buffer with three entries for each letter but one has room at once, for any other the runs are counted.
use mathlib.Core.Path.{◌≡◌, sym}
use mathlib.Core.List.{List}
use Prim.Native.Nat.{ℕ, ◌-◌, ◌*◌, ◌≤◌, ◌<◌}
use native.Mathlib.Omega.{arith}
use borrow.Author.Tests.{le-ltb}
use lib.ListN.{length}
use Rattle.words.specs.Runs.{separated_runs}
use Rattle.theory.proofs.Stretches.SeparatedRuns.{separated-runs-fewer}
use Rattle.checks.specs.Lines.{tried, Passed}
use Rattle.checks.proofs.LineLaws.{all_pass}
use Rattle.walking.specs.Walking.{CountRoom}
use Rattle.runs.specs.Runs.{runs_lines}
use Rattle.runs.specs.Room.{RoomAsked}

pub room-at-once : (w : List ℕ) (entries : ℕ) → 0 < length w → 3 * (length w - 1) ≤ entries → Passed ≡ tried (runs_lines w entries)
room-at-once w entries o l =
    let enough : 3 * length (separated_runs w) ≤ entries = omega (arith, separated-runs-fewer w o) in
    sym (all_pass _ (le-ltb entries (3 * length (separated_runs w)) enough, search))

pub count-asks : {w longest : List ℕ} → RoomAsked w longest → CountRoom w longest
count-asks a = record { short = a.accepted.short; work = a.work }
