-- From the place i on the buffer holds the table, and before it what it held; n is the entry at i. A turn reads the entries from i on
-- and writes the one before.
use Rattle.merging.proofs.FillLaws.{Filling}
use Rattle.merging.proofs.fill_table.Given as goal

abbrev pub invariant-loop-i : goal.invariant-loop-i
invariant-loop-i l = Filling l.word l.initial.lengths l.lengths l.i l.n
