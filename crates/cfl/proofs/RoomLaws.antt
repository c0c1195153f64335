-- Line 4 of the strict cut: a buffer with an entry for each letter has room at once.
use mathlib.Core.Path.{◌≡◌, sym}
use mathlib.Core.List.{List}
use Prim.Native.Nat.{ℕ, ◌≤◌}
use native.Mathlib.Omega.{arith}
use borrow.Author.Tests.{le-ltb}
use lib.ListN.{length}
use Rattle.words.specs.Separated.{separated_cfl_in_ends}
use Rattle.theory.specs.Places.EndsRise.{rises-few}
use Rattle.theory.proofs.Stretches.Factors.{separated-cfl-in-ends-rise}
use Rattle.checks.specs.Lines.{tried, Passed}
use Rattle.checks.proofs.LineLaws.{all_pass}
use Rattle.cfl.specs.CflIn.{cfl_in_lines}

pub room-at-once : (w : List ℕ) (entries : ℕ) → length w ≤ entries → Passed ≡ tried (cfl_in_lines w entries)
room-at-once w entries l =
    let few : length (separated_cfl_in_ends w) ≤ length w = omega (arith, rises-few (separated-cfl-in-ends-rise w)) in
    sym (all_pass _ (le-ltb entries (length (separated_cfl_in_ends w)) (omega arith), search))
