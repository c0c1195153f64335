-- Merging neighbouring anti-Lyndon words, the laws behind the Lyndon table from right to left (Merged). The word w[i..j) is anti-Lyndon,
-- and the longest one at j is known: if it comes after w[i..j), both make one (merged-more); else w[i..j) is the longest at i
-- (merged-stops).
use Rattle.std.specs.Prelude.{◌≡◌, ℕ, ◌+◌, ◌-◌, ◌≤◌, ◌<◌, length, take, drop, get_or}
use Rattle.std.proofs.Common.{arith, drop-cons}
use mathlib.Core.List.{List}
use Rattle.words.specs.Words.{AntiLyndon}
use Rattle.theory.specs.Lyndon.AntiLyndonLaws.{letter-anti-lyndon}

-- ---- places of a word

-- the word from i to j is anti-Lyndon
pub record Merged (w : List ℕ) (i j : ℕ) : Type 0 where
  pub after : i < j
  pub inside : j ≤ length w
  pub word : AntiLyndon (take (j - i) (drop i w))

pub merged-letter : (w : List ℕ) (i : ℕ) → i < length w → Merged w i (i + 1)
merged-letter w i l =
    let n : i + 1 - i ≡ 1 = omega arith in
    record { after = omega arith; inside = omega arith; word = rw (n, drop-cons w i 0 l) (letter-anti-lyndon (get_or w i 0)) }
