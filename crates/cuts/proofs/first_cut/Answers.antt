-- A separator alone, or what the test says of a letter below it.
use Prim.Native.Nat.{◌<◌}
use native.Mathlib.Omega.{arith}
use lib.ListN.{get_or}
use Rattle.words.specs.Separated.{separator}
use Rattle.cuts.proofs.FirstCuts.{uncut-separator, cut-separator, uncut-letter, cut-letter}
use Rattle.cuts.proofs.first_cut.Goals as goal
use Rattle.cuts.proofs.first_cut.Goals.{Else-word}

-- the first letter is a byte, and no separator
below_at : (c : Else-word) → get_or c.args.word.now 0 0 < separator
below_at c = omega (arith, c.if-word.false, c.type_inv.word 0)

pub returns-then-word-eq1 : goal.returns-then-word-eq1
returns-then-word-eq1 c = uncut-separator _ _ c.if-word.true c.if-word-eq1.true

pub returns-then-word : goal.returns-then-word
returns-then-word c = cut-separator _ _ c.if-word.true c.if-word-eq1.false

pub returns-in_err-found : goal.returns-in_err-found
returns-in_err-found c =
    rw c.from_residual.ensures (uncut-letter _ _ _ (below_at (goal.at.returns-in_err-found c).Else-word) c.in_err-found.ensures)

pub returns : goal.returns
returns c = cut-letter _ _ _ (below_at (goal.at.returns c).Else-word) c.requires.nonempty c.in_ok-found.ensures
