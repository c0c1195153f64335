-- Each turn takes one pair whose count is not 0 and reaches no further from the last end than its own end; the list passes where the last end is the length.
use mathlib.Core.Path.{◌≡◌, sym, ◌∙◌}
use mathlib.Core.List.{◌∷◌}
use Prim.Native.Nat.{◌+◌, ◌*◌}
use native.Mathlib.Omega.{arith}
use lib.ListN.{drop, length-drop}
use borrow.Author.Tests.{eqb-true, eqb-false}
use Rattle.pairs.proofs.PairsLaws.{pairs_none, pairs-odd, two-left, count_none, count-past, pairs-on, pairs_end}
use Rattle.pairs.proofs.faulty_pairs.Goals as goal
use Rattle.pairs.proofs.faulty_pairs.Goals.{then-is_empty-via-then-is_empty, then-is_empty-via-else-is_empty+then-pairs-eq1}
use Rattle.pairs.proofs.faulty_pairs.Goals.{then-count-eq0-via-then-count-eq0, then-count-eq0-via-else-count-eq0+then-end-last}
use Rattle.pairs.proofs.faulty_pairs.Goals.{After-from-count}

-- the pair that is next, before those that come after it
taken : (c : After-from-count) → drop (2 * c.loop-k.k) c.args.pairs.now ≡ c.from-end.result ∷ c.from-count.result ∷ drop (2 * (c.loop-k.k + 1)) c.args.pairs.now
taken c = rw (c.from-end.ensures, c.from-count.ensures) (two-left c.args.pairs.now c.loop-k.k c.loop-k-test.true)

pub returns-then-is_empty : goal.returns-then-is_empty
returns-then-is_empty c =
    elim c.then-is_empty.branch [
      | then-is_empty-via-then-is_empty w ↦ pairs_none _ _ (eqb-true _ _ (sym c.is_empty.ensures ∙ w.if-is_empty.true))
      | then-is_empty-via-else-is_empty+then-pairs-eq1 w ↦ pairs-odd _ _ w.if-pairs-eq1.true
    ]

pub returns-then-count-eq0 : goal.returns-then-count-eq0
returns-then-count-eq0 c =
    let next = taken (goal.at.returns-then-count-eq0 c).After-from-count in
    elim c.then-count-eq0.branch [
      | then-count-eq0-via-then-count-eq0 w ↦ count_none c.loop-k.invariant.0 next w.if-count-eq0.true
      | then-count-eq0-via-else-count-eq0+then-end-last w ↦ count-past c.loop-k.invariant.0 next w.if-end-last.true
    ]

pub loop-k-preserved : goal.loop-k-preserved
loop-k-preserved c =
    let next = taken (goal.at.loop-k-preserved c).After-from-count in
    (pairs-on c.loop-k.invariant.0 next c.if-count-eq0.false c.if-end-last.false, omega arith)

pub returns : goal.returns
returns c =
    let some = eqb-false _ _ (sym c.is_empty.ensures ∙ c.if-is_empty.false) in
    pairs_end c.loop-k.invariant.0 (omega (arith, length-drop (2 * c.loop-k.k) c.args.pairs.now, c.loop-k-test.false)) some
