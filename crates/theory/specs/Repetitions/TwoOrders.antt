-- The Lyndon tables of a word in both orders of the letters. The other order is that of the letters taken from a bound m (reversed). THEOREM one-order: at
-- each place one of the two entries is 1. The longer entry tells its order by its last letter (longest-falls, longest-rises): so one list of the longer
-- ones serves for both tables.
use Rattle.std.specs.Prelude.{◌≡◌, List, map, ℕ, ◌+◌, ◌-◌, ◌≤◌, ◌<◌, max, length, get_or}
use Rattle.std.proofs.Common.{arith}
use Rattle.std.proofs.lemmas.List.{length-map}
use Rattle.theory.specs.Repetitions.RunSuffixes.{entry_at}
use Rattle.theory.specs.Repetitions.RunsMap.{get_d_map, KeepsApart}

-- ---- one order: an entry above 1

-- the next letter is smaller, or the same with an entry above 1
pub data Falls (v : List ℕ) (i : ℕ) : Type 0 where
  smaller : get_or v (i + 1) 0 < get_or v i 0 → Falls v i
  goes_on : get_or v (i + 1) 0 ≡ get_or v i 0 → 1 < entry_at v (i + 1) → Falls v i

-- ---- both orders

-- no letter is above m
abbrev pub UpTo : ℕ → List ℕ → Type 0
UpTo m w = (i : ℕ) → get_or w i 0 ≤ m

abbrev pub reversed : ℕ → List ℕ → List ℕ
reversed m w = map (λ a. m - a) w

pub reversed-length : (m : ℕ) (w : List ℕ) → length (reversed m w) ≡ length w
reversed-length m w = length-map w (λ a. m - a)

pub reversed-at : (m : ℕ) (w : List ℕ) (t : ℕ) → t < length w → get_or (reversed m w) t 0 ≡ m - get_or w t 0
reversed-at m w t l = get_d_map (λ a. m - a) w t l

pub reversed-apart : (m : ℕ) (w : List ℕ) → UpTo m w → KeepsApart (λ a. m - a) w
reversed-apart m w b i j k l z = omega (arith, b i, b j)

-- the longer of the two entries
abbrev pub longer_entry : ℕ → List ℕ → ℕ → ℕ
longer_entry m w i = max (entry_at w i) (entry_at (reversed m w) i)
