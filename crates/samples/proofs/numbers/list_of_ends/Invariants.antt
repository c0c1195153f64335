-- Where there is room for an end after each place, those of the places before this one are in.
use Rattle.std.proofs.Common.{◌≡◌, ◌≤◌}
use Rattle.samples.proofs.numbers.list_of_ends.Given as goal

abbrev pub invariant-loop-place : goal.invariant-loop-place
invariant-loop-place g l = l.n ≤ g.row.N → l.list.count ≡ l.place
