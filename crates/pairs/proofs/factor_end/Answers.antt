-- A list has half as many pairs as entries.
use mathlib.Core.Path.{sym}
use native.Mathlib.Omega.{arith}
use Rattle.theory.specs.Places.PairedLists.{ends-half, ends_at}
use Rattle.pairs.proofs.factor_end.Goals as goal

pub overflow_mul-result : goal.overflow_mul-result
overflow_mul-result c = omega (arith, ends-half c.args.pairs.now, c.well_formed)

pub offset_bounds-pairs-number : goal.offset_bounds-pairs-number
offset_bounds-pairs-number c = omega (arith, ends-half c.args.pairs.now, c.well_formed)

pub bounds-pairs-number : goal.bounds-pairs-number
bounds-pairs-number c = omega (arith, ends-half c.args.pairs.now)

pub returns : goal.returns
returns c = sym (ends_at c.args.pairs.now c.args.number c.requires)
