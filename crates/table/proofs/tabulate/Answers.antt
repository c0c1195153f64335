-- Past line 4 the table fits into the buffer.
use mathlib.Core.Path.{sym}
use native.Mathlib.Omega.{arith}
use Rattle.checks.proofs.LineLaws.{passed-up, filled-refused}
use Rattle.checks.proofs.RecordLaws.{enough}
use Rattle.table.proofs.tabulate.Goals as goal

pub returns-in_err-check_result : goal.returns-in_err-check_result
returns-in_err-check_result c = rw (passed-up _ c.from_residual.ensures.1) (filled-refused _ _ _ c.in_err-check_result.ensures)

pub fill_table-requires : goal.fill_table-requires
fill_table-requires c =
    let short = c.args.admitted.accepted.short in
    record { short = short; room = omega (arith, short, enough 4 _ _ (sym c.in_ok-check_result.ensures)) }
