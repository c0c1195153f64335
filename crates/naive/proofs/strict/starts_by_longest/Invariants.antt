-- Where there is room for a length at each place, those before place i are in.
use Rattle.std.proofs.Common.{◌≡◌, ◌≤◌, length}
use Rattle.naive.proofs.strict.starts_by_longest.Given as goal

abbrev pub invariant-loop-i : goal.invariant-loop-i
invariant-loop-i g l = length l.word ≤ g.row.N → l.lengths.count ≡ l.i
