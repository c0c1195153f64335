-- What has come lies at the front of the buffer, and is what the input no longer has; each turn that goes on adds to it.
use Rattle.std.proofs.Common.{◌≡◌, ◌≤◌, ◌-◌, length, take}
use Rattle.std.specs.Io.KnownBytes.{Consumes}
use Rattle.lister.proofs.read_word.Given as goal

abbrev pub invariant-loop-done : goal.invariant-loop-done
invariant-loop-done g l =
    (l.done ≤ length l.word) × (length l.word ≡ length l.initial.word)
    × Consumes (g.R.Read.remaining l.initial.input) (g.R.Read.remaining l.input) (take l.done l.word)

abbrev pub decreases-loop-done : goal.decreases-loop-done
decreases-loop-done g l = length l.word - l.done
