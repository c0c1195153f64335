-- DEFINITIONS. What request 108 says of the pairs of a record; that it is true of separated_pairs is a theorem (proofs/Stretches/RecordPairs, pairs-are).
use Rattle.std.specs.Prelude.{◌≡◌, ℕ, ◌+◌, ◌-◌, ◌≤◌, length}
use mathlib.Core.List.{List, ◌∷◌, sum}
use Rattle.std.proofs.Math.Seq.{slice}
use Rattle.words.specs.Separated.{mark, separated_icfl_ends, separated_cfl_in_ends}
use Rattle.words.specs.Pairs.{ends_of, counts_of}

-- among the pairs ps, the first of which is of a piece that begins at b, is that of the piece from i to j, with the count c
pub data Pair (i j c : ℕ) : ℕ → List ℕ → Type 0 where
  here : {ps : List ℕ} → Pair i j c i (j ∷ c ∷ ps)
  there : {b e d : ℕ} {ps : List ℕ} → Pair i j c e ps → Pair i j c b (e ∷ d ∷ ps)

pub record PairsOf (w ps : List ℕ) : Type 0 where
  -- "two numbers, the end .."
  pub ends : ends_of ps ≡ separated_icfl_ends w
  -- ".. and the number of strict pieces inside": those that the piece has when it is cut alone
  pub inside : (i j c : ℕ) → Pair i j c 0 ps → c ≡ length (separated_cfl_in_ends (slice i j w))
  -- "The counts add up to the length of the strict list."
  pub total : sum ◌+◌ 0 (counts_of ps) ≡ length (separated_cfl_in_ends w)
  -- none "is 0 or above its piece's length"
  pub bounds : (i j c : ℕ) → Pair i j c 0 ps → (1 ≤ c) × (c ≤ j - i)
  -- a mark is one strict piece
  pub marks : (i j c : ℕ) → Pair i j c 0 ps → slice i j w ≡ mark → c ≡ 1
