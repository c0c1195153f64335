-- What single lines tell where they pass: the record's two (accepted), and a line that wants entries (enough).
use mathlib.Core.Path.{◌≡◌}
use mathlib.Core.List.{List, [], ◌∷◌}
use Prim.Native.Nat.{ℕ, ◌≤◌}
use native.Mathlib.Omega.{arith}
use lib.ListN.{length}
use lib.Dec.{ltb}
use borrow.Author.Tests.{eqb-false, ltb-false, ne_eqb, le-ltb}
use Rattle.words.specs.Words.{most_letters}
use Rattle.checks.specs.Lines.{◌when◌, Passed, tried, record_lines, Accepted}
use Rattle.checks.proofs.LineLaws.{unmet, all_pass}

pub accepted : (w : List ℕ) → tried (record_lines w) ≡ Passed → Accepted w
accepted w e =
    let u = unmet (record_lines w) e in
    record { nonempty = omega (arith, eqb-false (length w) 0 u.0); short = ltb-false most_letters (length w) u.1.0 }

pub record-passes : (w : List ℕ) → Accepted w → tried (record_lines w) ≡ Passed
record-passes w a = all_pass (record_lines w) (ne_eqb (length w) 0 (λ z. omega (arith, a.nonempty)), (le-ltb most_letters (length w) a.short, search))

pub enough : (number entries needed : ℕ) → tried (number when ltb entries needed ∷ []) ≡ Passed → needed ≤ entries
enough number entries needed e = ltb-false entries needed (unmet (number when ltb entries needed ∷ []) e).0
