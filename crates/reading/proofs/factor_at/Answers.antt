-- Refused at the door, or the room's promise past it.
use mathlib.Core.Path.{sym, ◌∙◌}
use mathlib.Core.List.{List, []}
use Prim.Native.Nat.{ℕ}
use Rattle.checks.proofs.LineLaws.{passed-up, past-door, refused-at-door}
use Rattle.reading.proofs.factor_at.Goals as goal

pub returns-in_err-admitted : goal.returns-in_err-admitted
returns-in_err-admitted c =
    let says = c.in_err-admitted.ensures.says in
    rw (passed-up _ c.from_residual.ensures.1) (record {
      number_is = refused-at-door _ _ 0 (λ (n : ℕ). n) says;
      part-is = refused-at-door {A = List ℕ} _ _ _ (λ (n : ℕ). []) says;
    })

pub returns : goal.returns
returns c =
    let p = sym c.in_ok-admitted.ensures.says in
    let same = c.in_ok-admitted.ensures.same in
    record {
      number_is = rw same at c.part_at.ensures.number_is ∙ past-door _ _ 0 (λ (n : ℕ). n) p;
      part-is = rw same at c.part_at.ensures.part-is ∙ past-door {A = List ℕ} _ _ _ (λ (n : ℕ). []) p;
    }
