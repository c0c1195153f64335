-- The digits that are left, stored in the buffer as it is, make the number stored in the buffer as it was.
use mathlib.Core.Path.{refl}
use native.Mathlib.Omega.{arith}
use Rattle.text.proofs.Texts.{spell-start, spell-step, spell-end}
use Rattle.text.proofs.Page.write_decimal.Goals as goal

pub loop-place-init : goal.loop-place-init
loop-place-init c = (spell-start _ _ _ _ c.digit_count.ensures, refl, refl)

pub loop-place-preserved : goal.loop-place-preserved
loop-place-preserved c = let g = c.loop-place.invariant in (spell-step g.0 c.loop-place-test.true, g.1, g.2)

pub returns : goal.returns
returns c =
    let g = c.loop-place.invariant in
    record { same = g.1; text = spell-end _ g.0 c.loop-place-test.false (omega (arith, c.digit_count.ensures)) }
