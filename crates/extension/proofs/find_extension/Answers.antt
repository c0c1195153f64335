-- Refused at the door, or the room's promise past it.
use mathlib.Core.Path.{sym, ◌∙◌}
use Prim.Native.Nat.{ℕ}
use Rattle.checks.specs.Answers.{refuses}
use Rattle.checks.proofs.LineLaws.{passed-up, past-door, refused-at-door}
use Rattle.extension.proofs.find_extension.Goals as goal

pub returns-in_err-admitted : goal.returns-in_err-admitted
returns-in_err-admitted c =
    let says = c.in_err-admitted.ensures.says in
    rw (passed-up _ c.from_residual.ensures.1)
    (record { answer = refused-at-door _ _ _ (λ (n : ℕ). refuses n) says; buffer = refused-at-door _ _ _ _ says })

pub returns : goal.returns
returns c =
    let p = sym c.in_ok-admitted.ensures.says in
    let same = c.in_ok-admitted.ensures.same in
    record {
      answer = rw same at c.test.ensures.answer ∙ past-door _ _ _ (λ (n : ℕ). refuses n) p;
      buffer = rw same at c.test.ensures.buffer ∙ past-door _ _ _ _ p;
    }
