-- Where there is room for all pairs, those of the ends before the next one are in.
use Rattle.std.proofs.Common.{◌≡◌, ◌*◌, ◌≤◌, length}
use Rattle.access.proofs.pairing.pair_with_ones.Given as goal

abbrev pub invariant-loop-end : goal.invariant-loop-end
invariant-loop-end g l = 2 * length l.ends ≤ g.row.N → l.pairs.count ≡ 2 * l.end-index
