-- Leading zeros and binary digits make 16.
use native.Mathlib.Omega.{arith}
use lib.Count.{leading_le}
use Rattle.summary.proofs.BitLengths.{zeros-and-bits}
use Rattle.summary.proofs.bit_length.Goals as goal

pub overflow_sub-result : goal.overflow_sub-result
overflow_sub-result c = omega (arith, leading_le 16 c.args.n)

pub returns : goal.returns
returns c = omega (arith, zeros-and-bits c.args.n)
