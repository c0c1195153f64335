-- The first number, then a byte and a number in each turn, the two bytes exchanged; the numbers that are left have room.
use mathlib.Core.Path.{refl, ◌∙◌}
use mathlib.Core.List.{[], ◌∷◌}
use native.Mathlib.Omega.{arith}
use Rattle.text.proofs.Stores.{wrote_then, wrote-long, left-all, left-text, left-none}
use Rattle.text.proofs.Texts.{list-none, list-first, first-length, each_at, each-length, each-end}
use Rattle.text.proofs.Page.write_list.Goals as goal

pub returns-in_default : goal.returns-in_default
returns-in_default c = record { same = refl; text = list-none _ _ _ _ _ c.in_default.ensures.cases }

pub write_decimal-requires : goal.write_decimal-requires
write_decimal-requires c =
    record { inside = omega (arith, first-length (c.args.separators.first ∷ []) (c.args.separators.second ∷ []) c.in-Some.ensures.cases.0) }

pub loop-number-init : goal.loop-number-init
loop-number-init c =
    let x = c.write_decimal.ensures.text in
    let size = first-length (c.args.separators.first ∷ []) (c.args.separators.second ∷ []) c.in-Some.ensures.cases.0 in
    (left-all _ _ _, omega (arith, size, x.place, wrote-long x), refl)

pub write_byte-requires : goal.write_byte-requires
write_byte-requires c =
    let b = c.loop-number.between in
    let g = c.loop-number.invariant in
    record {
      inside = omega (arith, each-length b.first b.second c.in-Some.others.now c.loop-number.number-index c.loop-number-test.true, g.0.place_is, g.0.long, g.1);
    }

pub write_decimal-requires-in-loop-number : goal.write_decimal-requires-in-loop-number
write_decimal-requires-in-loop-number c =
    let b = c.loop-number.between in
    let g = c.loop-number.invariant in
    let x = c.write_byte.ensures.text in
    let size = each-length b.first b.second c.in-Some.others.now c.loop-number.number-index c.loop-number-test.true in
    record { inside = omega (arith, size, g.0.place_is, g.0.long, g.1, x.place, wrote-long x) }

pub loop-number-preserved : goal.loop-number-preserved
loop-number-preserved c =
    let g = c.loop-number.invariant in
    let x = c.write_byte.ensures in
    let y = c.write_decimal-in-loop-number.ensures in
    rw c.swapped-between.ensures
    (left-text (left-text (rw (each_at _ _ _ _ c.loop-number-test.true) at g.0) x.text) y.text, g.1, y.same ∙ x.same ∙ g.2)

pub returns : goal.returns
returns c =
    let a = c.args.separators in
    let at = c.loop-number in
    let first = c.write_decimal.ensures in
    let all = rw (each-end at.between.first at.between.second c.in-Some.others.now at.number-index c.loop-number-test.false) at at.invariant.0 in
    record {
      same = at.invariant.2 ∙ first.same;
      text = rw (list-first (a.first ∷ []) (a.second ∷ []) c.in-Some.ensures.cases.0) (wrote_then first.text (left-none all));
    }
