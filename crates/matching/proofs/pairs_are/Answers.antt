use native.Mathlib.Omega.{arith}
use Rattle.theory.specs.Orders.Decisions.{decides-true, decides-false}
use Rattle.matching.proofs.PairsLoop.{first-none, first-zero, first-far, walk-begin}
use Rattle.matching.proofs.PairsLoop.{next_low, next-far, next-turn, next-faulty, next-on, last-short, last_turn, last-decides}
use Rattle.matching.proofs.pairs_are.Goals as goal

pub returns-in_default : goal.returns-in_default
returns-in_default c = first-none c.args.word.now c.args.pairs (λ k. omega (arith, c.type_inv.word k)) c.in_default.ensures.steps

pub returns-then-pair-eq0 : goal.returns-then-pair-eq0
returns-then-pair-eq0 c =
    first-zero c.args.word.now c.args.pairs (λ k. omega (arith, c.type_inv.word k)) c.in-Some.ensures.steps c.if-pair-eq0.true

pub returns-then-word-pair : goal.returns-then-word-pair
returns-then-word-pair c =
    first-far c.args.word.now c.args.pairs (λ k. omega (arith, c.type_inv.word k)) c.in-Some.ensures.steps c.if-word-pair.true

pub loop-next-init : goal.loop-next-init
loop-next-init c =
    rw c.into_iter-next-iterator.ensures.into_iter_gives (walk-begin c.in-Some.ensures.steps c.if-pair-eq0.false c.if-word-pair.false)

pub returns-then-next-pair : goal.returns-then-next-pair
returns-then-next-pair c =
    next_low c.args.word.now c.args.pairs (λ k. omega (arith, c.type_inv.word k)) c.loop-next.invariant c.in-Some-next.ensures.steps c.if-next-pair.true

pub returns-then-word-next : goal.returns-then-word-next
returns-then-word-next c =
    next-far c.args.word.now c.args.pairs (λ k. omega (arith, c.type_inv.word k)) c.loop-next.invariant c.in-Some-next.ensures.steps c.if-word-next.true

pub part_fits-requires : goal.part_fits-requires
part_fits-requires c =
    next-turn c.args.word.now c.args.pairs (λ k. omega (arith, c.type_inv.word k)) c.loop-next.invariant c.in-Some-next.ensures.steps
    c.if-next-pair.false c.if-word-next.false c.requires

pub returns-then-not-part_fits : goal.returns-then-not-part_fits
returns-then-not-part_fits c =
    next-faulty c.args.word.now c.args.pairs (λ k. omega (arith, c.type_inv.word k)) c.loop-next.invariant c.in-Some-next.ensures.steps
    c.if-next-pair.false c.if-word-next.false (decides-false c.part_fits.ensures c.if-not-part_fits.true)

pub loop-next-preserved : goal.loop-next-preserved
loop-next-preserved c =
    next-on c.args.word.now c.args.pairs (λ k. omega (arith, c.type_inv.word k)) c.loop-next.invariant c.in-Some-next.ensures.steps
    c.if-next-pair.false c.if-word-next.false (decides-true c.part_fits.ensures c.if-not-part_fits.false)

pub returns-then-pair-word : goal.returns-then-pair-word
returns-then-pair-word c =
    last-short c.args.word.now c.args.pairs (λ k. omega (arith, c.type_inv.word k)) c.loop-next.invariant c.in-None.ensures.steps c.if-pair-word.true

pub part_fits-requires-2 : goal.part_fits-requires-2
part_fits-requires-2 c =
    last_turn c.args.word.now c.args.pairs (λ k. omega (arith, c.type_inv.word k)) c.loop-next.invariant c.in-None.ensures.steps
    c.if-pair-word.false c.requires

pub returns : goal.returns
returns c =
    last-decides c.args.word.now c.args.pairs (λ k. omega (arith, c.type_inv.word k)) c.loop-next.invariant c.in-None.ensures.steps
    c.if-pair-word.false c.part_fits-2.ensures
