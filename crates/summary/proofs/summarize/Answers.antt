-- Refused at the door, or the room's promise past it.
use mathlib.Core.Path.{sym, ◌∙◌}
use Prim.Native.Nat.{ℕ}
use Rattle.checks.specs.Answers.{refuses}
use Rattle.checks.proofs.LineLaws.{passed-up, past-door, refused-at-door}
use Rattle.summary.proofs.summarize.Goals as goal

pub returns-in_err-admitted : goal.returns-in_err-admitted
returns-in_err-admitted c =
    rw (passed-up _ c.from_residual.ensures.1) (record { answer = refused-at-door _ _ _ (λ (n : ℕ). refuses n) c.in_err-admitted.ensures.says })

pub returns : goal.returns
returns c =
    let told = rw c.in_ok-admitted.ensures.same at c.summarize_pairs.ensures in
    record { answer = told.answer ∙ past-door _ _ _ (λ (n : ℕ). refuses n) (sym c.in_ok-admitted.ensures.says) }
