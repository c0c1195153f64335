-- A call that passes line 7 has a list that can be summed up.
use mathlib.Core.Path.{sym}
use Prim.Native.Nat.{ℕ}
use Rattle.checks.specs.Answers.{refuses}
use Rattle.checks.proofs.LineLaws.{passed-up, refused}
use Rattle.summary.proofs.EndsAdmitted.{ends-admitted, summable}
use Rattle.summary.proofs.summarize_pairs.Goals as goal

pub returns-in_err-check_pairs : goal.returns-in_err-check_pairs
returns-in_err-check_pairs c =
    rw (passed-up _ c.from_residual.ensures.1) (record { answer = refused _ _ (λ (n : ℕ). refuses n) c.in_err-check_pairs.ensures })

pub sum_up-requires : goal.sum_up-requires
sum_up-requires c = summable (ends-admitted _ _ c.args.admitted.accepted (sym c.in_ok-check_pairs.ensures))

pub returns : goal.returns
returns c = record { answer = rw (sym c.in_ok-check_pairs.ensures, c.sum_up.ensures) }
