-- What the steps of the Lyndon table ask of their arguments, and what the test of a letter decides (LetterJoins).
use Rattle.std.specs.Prelude.{◌≡◌, List, [], ◌∷◌, ℕ, ◌+◌, ◌≤◌, ◌<◌, length, get_or}
use Rattle.words.specs.Words.{most_letters, ◌≺◌}
use Rattle.words.specs.Separated.{separator, UpToSeparator, separated_table}
use Rattle.theory.specs.Table.Merging.{Merged}

-- the entries fit into 16 bits, and the buffer has room for them
pub record TableRoom (w out : List ℕ) : Type 0 where
  pub short : length w ≤ most_letters
  pub room : length w ≤ length out

-- the entries after i are those of the table
pub record TabledAfter (w out : List ℕ) (i : ℕ) : Type 0 where
  pub letters : UpToSeparator w
  pub inside : i < length w
  pub room : length w ≤ length out
  pub entries : (k : ℕ) → i < k → k < length w → get_or out k 0 ≡ get_or (separated_table w) k 0

-- and next is the first of them, 0 if there is none
pub record NextKnown (w out : List ℕ) (i next : ℕ) : Type 0 where
  pub after : TabledAfter w out i
  pub entry : next ≡ get_or (separated_table w) (i + 1) 0

-- and the word from i to j is anti-Lyndon, and does not begin with a separator
pub record MergedTo (w out : List ℕ) (i j : ℕ) : Type 0 where
  pub after : TabledAfter w out i
  pub below : get_or w i 0 < separator
  pub merged : Merged w i j

-- a word that begins with a separator is a single letter
abbrev pub SeparatorAlone : List ℕ → Type 0
SeparatorAlone v = get_or v 0 0 ≡ separator → length v ≤ 1

-- a letter that is no separator, and comes before v in the inverse order
pub record LetterJoins (a : ℕ) (v : List ℕ) : Type 0 where
  pub other : ¬ (a ≡ separator)
  pub comes : (a ∷ []) ≺ v
