-- From the place i on the buffer holds the table, and before it what it held; n is the entry at i. A turn reads the entries from i on
-- and writes the one before.
use native.Mathlib.Omega.{arith}
use Rattle.merging.proofs.FillLaws.{fill_begins, fill-asks, fill-short, fill-turn}
use Rattle.merging.proofs.fill_table.Goals as goal

pub loop-i-init : goal.loop-i-init
loop-i-init c = fill_begins c.requires (λ k. omega (arith, (c.type_inv.word k).fits))

pub longest_at-n-requires : goal.longest_at-n-requires
longest_at-n-requires c = fill-asks c.requires c.loop-i.invariant (omega arith)

pub overflow_cast-lengths : goal.overflow_cast-lengths
overflow_cast-lengths c =
    omega (arith, c.requires.short, fill-short c.requires c.loop-i.invariant (omega arith) c.longest_at-n.ensures)

pub loop-i-preserved : goal.loop-i-preserved
loop-i-preserved c =
    fill-turn c.requires c.loop-i.invariant (omega arith) c.longest_at-n.ensures
