-- What the promise of a listing tells its caller: the answer lies within the buffer.
use mathlib.Core.Path.{ap}
use mathlib.Core.List.{List}
use Prim.Native.Nat.{ℕ, ◌≤◌}
use native.Mathlib.Omega.{arith}
use lib.ListN.{length, length-append}
use Rattle.listing.specs.Listing.{Listed}

pub listed-inside : {w work pairs strict out work' pairs' strict' out' : List ℕ} {r : ℕ} → Listed w work pairs strict out r work' pairs' strict' out'
    → r ≤ length out'
listed-inside d = omega (arith, d.size, simp length-append at (ap length d.text))
