-- The l letters before i are equal to those a period later; the loop stops at one that is not, one past the period, or at the first letter.
use mathlib.Core.Path.{◌≡◌, ◌∙◌}
use native.Mathlib.Omega.{arith}
use Rattle.found.proofs.FoundLaws.{leftwards-parts, leftwards-ends}
use Rattle.found.proofs.left_of.Goals as goal

pub returns-then-word-t : goal.returns-then-word-t
returns-then-word-t c = leftwards-parts c.loop-l.invariant c.if-word-t.true

pub returns : goal.returns
returns c =
    let past = c.loop-l-test.false in
    let all : c.min-most.result ≡ c.loop-l.l = omega (arith, c.loop-l.auto.l-end) in
    all ∙ leftwards-ends c.loop-l.invariant (omega (arith, c.min-most.ensures))
