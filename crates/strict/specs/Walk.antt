-- What the walk over the anti-Lyndon factors keeps and promises. No call's promise cites this file.
use Rattle.std.specs.Prelude.{◌≡◌, List, ◌∷◌, ℕ, ◌+◌, ◌-◌, ◌*◌, ◌≤◌, ◌<◌, length, drop, get_or}
use Rattle.words.specs.Factorizations.{ends_from}
use Rattle.words.specs.Separated.{separator, separated_cfl_in}
use Rattle.scan.specs.State.{Rests}
use Rattle.strict.specs.declared.Run.{Run}

-- the ends of the factors from a place on
abbrev pub ends_left : List ℕ → ℕ → List ℕ
ends_left w from = ends_from from (separated_cfl_in (drop from w))

-- the factor at a place has n letters
pub record FactorAt (w : List ℕ) (at n : ℕ) : Type 0 where
  pub some : 0 < n
  pub inside : at + n ≤ length w
  pub ends : ends_left w at ≡ (at + n) ∷ ends_left w (at + n)

-- the factor at a place has r.length letters, and so has each after it that begins before r.until
abbrev pub Repeats : List ℕ → ℕ → Run → Type 0
Repeats w from r = (k : ℕ) → from + k * r.length < r.until → FactorAt w (from + k * r.length) r.length

-- the first factor from a place on has r.length letters, and so has each after it that begins before r.until: it is a separator, or a scan from there has
-- stopped, in which the separator is a letter as any other
pub data RunAt (w : List ℕ) (from : ℕ) (r : Run) : Type 0 where
  alone : get_or w from 0 ≡ separator → r.length ≡ 1 → r.until ≡ from + 1 → RunAt w from r
  repeated : get_or w from 0 < separator → from < r.until
      → Rests (drop from w) (record { border = r.until - 1 - from; length = r.until - 1 - from + r.length }) → RunAt w from r
