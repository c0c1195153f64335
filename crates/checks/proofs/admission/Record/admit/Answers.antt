-- Line 1, then line 2; past both the record is accepted.
use mathlib.Core.Path.{◌≡◌, sym}
use Rattle.checks.specs.Lines.{tried, record_lines, Passed}
use Rattle.checks.proofs.LineLaws.{passed-up, refused-first, passed_first}
use Rattle.checks.proofs.RecordLaws.{accepted}
use Rattle.checks.proofs.admission.Record.admit.Goals as goal
use Rattle.checks.proofs.admission.Record.admit.Goals.{In_ok-when-2}

passes : (c : In_ok-when-2) → tried (record_lines c.args.letters.now) ≡ Passed
passes c = sym (passed_first _ _ (sym c.in_ok-when.ensures) c.in_ok-when-2.ensures)

pub returns-in_err-when-clause-says : goal.returns-in_err-when-clause-says
returns-in_err-when-clause-says c = rw (passed-up _ c.from_residual.ensures.1) (refused-first _ _ c.in_err-when.ensures)

pub returns-in_err-when-2-clause-says : goal.returns-in_err-when-2-clause-says
returns-in_err-when-2-clause-says c =
    rw (passed-up _ c.from_residual-in_err-when-2.ensures.1) (passed_first _ _ (sym c.in_ok-when.ensures) c.in_err-when-2.ensures)

pub invariant_of-result : goal.invariant_of-result
invariant_of-result c = record { accepted = accepted _ (passes (goal.at.invariant_of-result c).In_ok-when-2) }

pub returns-clause-says : goal.returns-clause-says
returns-clause-says c = sym (passes (goal.at.returns-clause-says c).In_ok-when-2)
