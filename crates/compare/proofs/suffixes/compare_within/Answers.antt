-- The lines have passed, so both starts lie in a range of the word; sign and number are those of the two remainders.
use mathlib.Core.Path.{sym, ◌∙◌}
use Prim.Native.Nat.{ℕ}
use native.Mathlib.Omega.{arith}
use Rattle.theory.specs.Orders.WordSigns.{sign-parts}
use Rattle.theory.specs.Orders.CommonWithin.{common-parts}
use Rattle.checks.specs.Answers.{refuses}
use Rattle.checks.proofs.LineLaws.{passed-up, refused}
use Rattle.compare.proofs.ComparisonLaws.{Within, within}
use Rattle.compare.proofs.suffixes.compare_within.Goals as goal
use Rattle.compare.proofs.suffixes.compare_within.Goals.{In_ok-admit}

-- past the lines both starts lie in the range, and the range in the word
inside-at : (c : In_ok-admit) → Within c.args.admitted.letters.now c.args.starts.first c.args.starts.end c.args.starts.start c.args.starts.other
inside-at c = within _ _ _ _ _ (sym c.in_ok-admit.ensures)

pub returns-in_err-admit : goal.returns-in_err-admit
returns-in_err-admit c = rw (passed-up _ c.from_residual.ensures.1) (record { answer = refused _ _ (λ (n : ℕ). refuses n) c.in_err-admit.ensures })

pub slice_bounds-compare_words-count : goal.slice_bounds-compare_words-count
slice_bounds-compare_words-count c = omega (arith, inside-at (goal.at.slice_bounds-compare_words-count c).In_ok-admit)

pub slice_bounds-compare_words-start : goal.slice_bounds-compare_words-start
slice_bounds-compare_words-start c = omega (arith, inside-at (goal.at.slice_bounds-compare_words-start c).In_ok-admit)

pub slice_bounds-compare_words-end : goal.slice_bounds-compare_words-end
slice_bounds-compare_words-end c = omega (arith, inside-at (goal.at.slice_bounds-compare_words-end c).In_ok-admit)

pub slice_bounds-compare_words-count-2 : goal.slice_bounds-compare_words-count-2
slice_bounds-compare_words-count-2 c = omega (arith, inside-at (goal.at.slice_bounds-compare_words-count-2 c).In_ok-admit)

pub slice_bounds-compare_words-start-2 : goal.slice_bounds-compare_words-start-2
slice_bounds-compare_words-start-2 c = omega (arith, inside-at (goal.at.slice_bounds-compare_words-start-2 c).In_ok-admit)

pub slice_bounds-compare_words-end-2 : goal.slice_bounds-compare_words-end-2
slice_bounds-compare_words-end-2 c = omega (arith, inside-at (goal.at.slice_bounds-compare_words-end-2 c).In_ok-admit)

pub returns : goal.returns
returns c =
    let h = inside-at (goal.at.returns c).In_ok-admit in
    let order = c.compare_words.ensures in
    let common-is = order.common-is ∙ common-parts _ _ _ _ _ h.start-from h.other_from in
    let sign-is = sign-parts _ _ _ _ _ h.inside h.start-from h.start-below h.other_from h.other-below order.sign-is in
    record { answer = rw (sym c.in_ok-admit.ensures, sign-is, common-is) }
