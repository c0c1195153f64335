-- The digits that are left, stored in the buffer as it is, make the number stored in the buffer as it was.
use mathlib.Core.Path.{◌≡◌}
use Rattle.text.proofs.Texts.{Spelling}
use Rattle.text.proofs.Page.write_decimal.Given as goal

abbrev pub invariant-loop-place : goal.invariant-loop-place
invariant-loop-place l = Spelling l.number l.initial.self.out.now l.self.out.now l.initial.self.at l.place l.rest
    × (l.self.out.ghost_name ≡ l.initial.self.out.ghost_name) × (l.self.at ≡ l.initial.self.at)
