-- From the place i on the entries are those of the longest words; a turn reads them and writes the one before.
use native.Mathlib.Omega.{arith}
use Rattle.longest.proofs.LongestLaws.{from-short}
use Rattle.longest.proofs.fill_longest.Goals as goal

pub overflow_cast-longest : goal.overflow_cast-longest
overflow_cast-longest c =
    omega (
      arith,
      c.requires.short,
      from-short c.loop-i.invariant (λ k. omega (arith, (c.type_inv.word k).fits))
          (omega arith) c.longest_at-n.ensures,
    )
