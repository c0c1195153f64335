use Rattle.judging.proofs.Pairs.{pair-whole, pair-next, pair-exceeds, pair-apart, pair-unbordered, pair-border, pair-good}
use Rattle.theory.specs.Orders.CommonLength.{common-agree}
use native.Mathlib.Omega.{arith}
use mathlib.Core.Path.{sym}
use Rattle.judging.proofs.judge_pair.Goals as goal

pub overflow_add-result : goal.overflow_add-result
overflow_add-result c = omega (arith, c.common_length-common.ensures, (common-agree c.args.part.now c.args.next.now).matched.right)

pub returns-then-part-common : goal.returns-then-part-common
returns-then-part-common c =
    let part = c.args.part.now in
    let next = c.args.next.now in
    (omega arith, sym (pair-whole part next c.args.end _ c.common_length-common.ensures c.if-part-common.true))

pub returns-then-next-common : goal.returns-then-next-common
returns-then-next-common c =
    let part = c.args.part.now in
    let next = c.args.next.now in
    (omega arith, sym (pair-next part next c.args.end _ c.common_length-common.ensures c.if-part-common.false c.if-next-common.true))

pub returns-then-next-common-2 : goal.returns-then-next-common-2
returns-then-next-common-2 c =
    let part = c.args.part.now in
    let next = c.args.next.now in (
      omega arith,
      sym (pair-exceeds part next c.args.end _ c.common_length-common.ensures c.if-part-common.false c.if-next-common.false
          c.if-next-common-2.true),
    )

pub returns-then-common-eq0 : goal.returns-then-common-eq0
returns-then-common-eq0 c =
    let part = c.args.part.now in
    let next = c.args.next.now in
    sym (pair-apart part next c.args.end _ c.common_length-common.ensures c.if-part-common.false c.if-next-common.false c.if-next-common-2.false
    c.if-common-eq0.true)

pub returns-then-part-last : goal.returns-then-part-last
returns-then-part-last c =
    let part = c.args.part.now in
    let next = c.args.next.now in
    sym (pair-unbordered part next c.args.end _ c.common_length-common.ensures c.if-part-common.false c.if-next-common.false c.if-next-common-2.false
    _ c.last_factor-last.ensures c.if-part-last.true)

pub returns-then-last-common : goal.returns-then-last-common
returns-then-last-common c =
    let part = c.args.part.now in
    let next = c.args.next.now in (
      omega arith,
      sym (pair-border part next c.args.end _ c.common_length-common.ensures c.if-part-common.false c.if-next-common.false c.if-next-common-2.false
          _ c.last_factor-last.ensures c.if-part-last.false c.if-last-common.true),
    )

pub returns : goal.returns
returns c =
    let part = c.args.part.now in
    let next = c.args.next.now in
    sym (pair-good part next c.args.end _ c.common_length-common.ensures c.if-part-common.false c.if-next-common.false c.if-next-common-2.false
    _ c.last_factor-last.ensures c.if-part-last.false c.if-last-common.false)
