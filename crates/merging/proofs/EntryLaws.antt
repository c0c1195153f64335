-- What the entry n at a place j of the start table stands for: the longest anti-Lyndon word there, the separator being a letter as any other; or a
-- separator alone (EntryAt). Either way it is a word inside the record (entry-begins, entry-fits). Past the last entry there is none (table-end).
use mathlib.Core.Path.{◌≡◌, ◌∙◌}
use mathlib.Core.List.{List}
use Prim.Native.Nat.{ℕ, ◌+◌, ◌≤◌, ◌<◌}
use native.Mathlib.Omega.{arith}
use native.Mathlib.Decide.{ℕ_discrete}
use lib.ListN.{length, drop, get_or, length-drop, get_or-eq_default}
use Rattle.words.specs.Factorizations.{longest_anti_lyndon}
use Rattle.theory.specs.Lyndon.AntiLyndonLaws.{longest-is, longest-positive}
use Rattle.theory.specs.Table.LyndonTableCflIn.{lyndon-table-at}
use Rattle.words.specs.Separated.{separator, UpToSeparator, separated_table}
use Rattle.theory.specs.Stretches.TableEntries.{separated-table-letter, separated-table-other, separated-table-separator, separated-table-length}

pub table-end : (w : List ℕ) (i : ℕ) → length w ≤ i → get_or (separated_table w) i 0 ≡ 0
table-end w i l = get_or-eq_default (separated_table w) 0 {n = i} (rw separated-table-length l)

-- at a letter below the separator
pub letter-entry : (w : List ℕ) (i : ℕ) → i < length w → get_or w i 0 < separator → get_or (separated_table w) i 0 ≡ longest_anti_lyndon (drop i w)
letter-entry w i l h = separated-table-letter w i h ∙ lyndon-table-at w i l

pub data EntryAt (w : List ℕ) (j n : ℕ) : Type 0 where
  longest : n ≡ longest_anti_lyndon (drop j w) → EntryAt w j n
  alone : get_or w j 0 ≡ separator → n ≡ 1 → EntryAt w j n

pub entry_at : (w : List ℕ) → UpToSeparator w → (j : ℕ) → j < length w → EntryAt w j (get_or (separated_table w) j 0)
entry_at w b j l = go (ℕ_discrete (get_or w j 0) separator)
  where
    go : Dec (get_or w j 0 ≡ separator) → EntryAt w j (get_or (separated_table w) j 0)
    go (yes e) = alone e (separated-table-separator w j e)
    go (no n) = longest (separated-table-other w b j n ∙ lyndon-table-at w j l)

module _ {w : List ℕ} {j n : ℕ} where
  pub entry-begins : EntryAt w j n → j < length w → 0 < n
  entry-begins (longest e) l = omega (arith, longest-positive (drop j w) (rw length-drop (omega arith)))
  entry-begins (alone s e) l = omega arith

  pub entry-fits : EntryAt w j n → j < length w → j + n ≤ length w
  entry-fits (longest e) l = omega (arith, (longest-is (drop j w)).upto, length-drop j w)
  entry-fits (alone s e) l = omega arith
