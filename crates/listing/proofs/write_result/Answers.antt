-- The piece cut's pairs can be summed up, and so the lines are the listing's.
use native.Mathlib.Omega.{arith}
use Rattle.listing.proofs.Results.{summable-pairs, printable, lines_are}
use Rattle.listing.proofs.write_result.Goals as goal

pub sum_up-summary-requires : goal.sum_up-summary-requires
sum_up-summary-requires c = summable-pairs c.args.admitted.accepted c.requires

pub overflow_cast-admitted : goal.overflow_cast-admitted
overflow_cast-admitted c = omega (arith, c.args.admitted.accepted.short)

pub write_lines-requires : goal.write_lines-requires
write_lines-requires c = printable c.args.admitted.accepted c.requires c.sum_up-summary.ensures

pub returns : goal.returns
returns c = rw (← lines_are c.args.admitted.accepted c.requires c.sum_up-summary.ensures) c.write_lines.ensures
