-- The reader's own lines are tried past those at the door; past them all the part's places stand in the list.
use mathlib.Core.Path.{◌≡◌, refl, sym}
use Rattle.words.specs.Pairs.{ends_of}
use Rattle.checks.specs.Lines.{tried, Passed}
use Rattle.checks.proofs.LineLaws.{passed-up, refused, refused-first, passed_first, both-pass}
use Rattle.reading.specs.Factor.{factor_lines}
use Rattle.reading.proofs.FactorLaws.{Placed, placed}
use Rattle.exports.proofs.places_of.Goals as goal
use Rattle.exports.proofs.places_of.Goals.{In_ok-check_part}

own-passes : (c : In_ok-check_part) → tried (factor_lines c.args.word.now c.args.pairs.now c.args.number) ≡ Passed
own-passes c = rw c.in_ok-admitted.ensures.same at (sym c.in_ok-check_part.ensures)

placed-at : (c : In_ok-check_part) → Placed c.args.word.now (ends_of c.args.pairs.now) c.args.number
placed-at c = placed _ _ _ (own-passes c)

pub returns-in_err-admitted : goal.returns-in_err-admitted
returns-in_err-admitted c =
    rw (passed-up _ c.from_residual.ensures.1) (refused _ _ (λ number. (number, 0, 0)) (refused-first _ _ c.in_err-admitted.ensures.says))

pub returns-in_err-check_part : goal.returns-in_err-check_part
returns-in_err-check_part c =
    let own = rw c.in_ok-admitted.ensures.same at c.in_err-check_part.ensures in
    rw (passed-up _ c.from_residual-in_err-check_part.ensures.1)
    (refused _ _ (λ number. (number, 0, 0)) (passed_first _ _ (sym c.in_ok-admitted.ensures.says) own))

pub factor_from-requires : goal.factor_from-requires
factor_from-requires c = (placed-at (goal.at.factor_from-requires c).In_ok-check_part).listed

pub factor_end-requires : goal.factor_end-requires
factor_end-requires c = (placed-at (goal.at.factor_end-requires c).In_ok-check_part).listed

pub returns : goal.returns
returns c =
    let all = both-pass _ _ (sym c.in_ok-admitted.ensures.says) (own-passes (goal.at.returns c).In_ok-check_part) in
    rw (all, c.factor_from.ensures, c.factor_end.ensures) refl
