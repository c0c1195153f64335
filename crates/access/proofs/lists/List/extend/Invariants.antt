-- Where there is room for all values, those before the next one are in.
use Rattle.std.proofs.Common.{◌≡◌, ◌+◌, ◌≤◌, length}
use Rattle.access.proofs.lists.List.extend.Given as goal

abbrev pub invariant-loop-value : goal.invariant-loop-value
invariant-loop-value g l = l.initial.self.count + length l.values ≤ g.row.N → l.self.count ≡ l.initial.self.count + l.value-index
