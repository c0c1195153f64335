-- One place of the Lyndon table: the word from i to j is merged, and n is the entry at j, 0 past the last one (Merging). At a letter below the
-- separator the word at j joins (turn-joins), or the word from i to j is the longest (turn-stops, turns-end), as it is before a separator.
-- The first turn has a letter on its left (letter-joins, letter-stops).
use mathlib.Core.Path.{◌≡◌, sym, ◌∙◌}
use mathlib.Core.List.{List, [], ◌∷◌}
use Prim.Native.Nat.{ℕ, ◌+◌, ◌-◌, ◌≤◌, ◌<◌, min}
use native.Mathlib.Omega.{arith}
use native.Mathlib.Decide.{dec_lt, ℕ_discrete}
use lib.ListN.{length, take, drop, get_or, length-take, length-drop}
use lib.Seq.{drop-cons, get_or-take, get_or-drop}
use borrow.Author.Tests.{le-ltb}
use Rattle.buffers.proofs.PartLaws.{part}
use Rattle.words.specs.Words.{◌≺◌}
use Rattle.words.specs.Factorizations.{longest_anti_lyndon}
use Rattle.words.specs.Separated.{separator, UpToSeparator, separated_table}
use Rattle.theory.specs.Orders.Decisions.{decides-false}
use Rattle.theory.specs.Lyndon.AntiLyndonLaws.{longest-positive}
use Rattle.theory.specs.Stretches.TableEntries.{separated-table-separator}
use Rattle.theory.specs.Table.Merging.{Merged}
use Rattle.theory.proofs.Table.Merging.{merged-more, merged-stops, merged-ends}
use Rattle.merging.specs.Steps.{SeparatorAlone, LetterJoins}
use Rattle.common.proofs.BeforeLaws.{first-decide}
use Rattle.merging.proofs.EntryLaws.{table-end, letter-entry, EntryAt, longest, alone, entry_at, entry-begins, entry-fits}

pub record Merging (w : List ℕ) (i j n : ℕ) : Type 0 where
  pub letters : UpToSeparator w
  pub merged : Merged w i j
  pub entry : n ≡ get_or (separated_table w) j 0

-- a nonempty part begins with the letter at its place
part-begins : (w : List ℕ) (i m : ℕ) → i < length w → 0 < m → 0 < length (take m (drop i w))
part-begins w i m l p = rw (length-take, length-drop) (omega arith)

part-first : (w : List ℕ) (i m : ℕ) → 0 < m → get_or (take m (drop i w)) 0 0 ≡ get_or w i 0
part-first w i m p = let z : i + 0 ≡ i = omega arith in get_or-take m (drop i w) 0 0 p ∙ (rw z at (get_or-drop i w 0 0))

module _ {w : List ℕ} {i j : ℕ} (b : get_or w i 0 < separator) (x : Merged w i j) where
  -- the word from i to j is the longest at i
  entry-is : longest_anti_lyndon (drop i w) ≡ j - i → j - i ≡ get_or (separated_table w) i 0
  entry-is e = sym (letter-entry w i (omega (arith, x.after, x.inside)) b ∙ e)

  pub turns-end : length w ≤ j → j - i ≡ get_or (separated_table w) i 0
  turns-end l = entry-is (merged-ends w i j x (omega (arith, x.inside)))

  -- no word that begins with a separator comes after it
  separator-joins-none : get_or w j 0 ≡ separator → j < length w → (m : ℕ) → 0 < m → ¬ (part i j w ≺ take m (drop j w))
  separator-joins-none s l m p =
      let u : get_or (part i j w) 0 0 ≡ get_or w i 0 = part-first w i (j - i) (omega (arith, x.after)) in
      let v : get_or (take m (drop j w)) 0 0 ≡ get_or w j 0 = part-first w j m p in
      let n : 0 < length (part i j w) = part-begins w i (j - i) (omega (arith, x.after)) (omega (arith, x.after)) in
      decides-false (first-decide (part i j w) (take m (drop j w)) n (part-begins w j m l p) (λ e. omega arith))
      (le-ltb (get_or (take m (drop j w)) 0 0) (get_or (part i j w) 0 0) (omega arith))

module _ {w : List ℕ} {i j n : ℕ} (g : Merging w i j n) where
  entry : j < length w → EntryAt w j n
  entry l = rw g.entry (entry_at w g.letters j l)

  none : ¬ (j < length w) → n ≡ 0
  none l = g.entry ∙ table-end w j (omega arith)

  pub turn-begins : j < length w → 0 < n
  turn-begins l = entry-begins (entry l) l

  pub turn-fits : j + n ≤ length w
  turn-fits = go (dec_lt j (length w))
    where
      go : Dec (j < length w) → j + n ≤ length w
      go (yes l) = entry-fits (entry l) l
      go (no l) = omega (arith, none l, g.merged.inside)

  next : j + n - j ≡ n
  next = omega arith

  -- a word that begins with a separator is that letter
  pub turn_alone : SeparatorAlone (part j (j + n) w)
  turn_alone s = rw (next, length-take) (go (dec_lt j (length w)))
    where
      go : Dec (j < length w) → min n (length (drop j w)) ≤ 1
      go (yes l) =
          let begins : get_or w j 0 ≡ separator = sym (part-first w j n (turn-begins l)) ∙ (rw next at s) in
          omega (arith, g.entry, separated-table-separator w j begins)
      go (no l) = omega (arith, none l)

  module _ (b : get_or w i 0 < separator) where
    pub turn-joins : part i j w ≺ part j (j + n) w → Merged w i (j + n)
    turn-joins h = go (dec_lt j (length w))
      where
        joins : part i j w ≺ take n (drop j w)
        joins = rw next at h

        by : j < length w → EntryAt w j n → Merged w i (j + n)
        by l (longest e) = rw e (merged-more w i j g.merged l (rw e at joins))
        by l (alone s e) = absurd (separator-joins-none b g.merged s l n (omega arith) joins)

        go : Dec (j < length w) → Merged w i (j + n)
        go (yes l) = by l (entry l)
        go (no l) = let z : j + n ≡ j = omega (arith, none l) in rw z g.merged

    pub turn-stops : ¬ (part i j w ≺ part j (j + n) w) → j - i ≡ get_or (separated_table w) i 0
    turn-stops h = go (dec_lt j (length w))
      where
        stops : j < length w → EntryAt w j n → ¬ (part i j w ≺ take (longest_anti_lyndon (drop j w)) (drop j w))
        stops l (longest e) = rw (next, e) at h
        stops l (alone s e) = separator-joins-none b g.merged s l _ (longest-positive (drop j w) (rw length-drop (omega arith)))

        go : Dec (j < length w) → j - i ≡ get_or (separated_table w) i 0
        go (yes l) = entry-is b g.merged (merged-stops w i j g.merged l (stops l (entry l)))
        go (no l) = turns-end b g.merged (omega arith)

-- ---- the first turn, with a letter on the left

module _ {w : List ℕ} {i n : ℕ} (g : Merging w i (i + 1) n) where
  below : ¬ (get_or w i 0 ≡ separator) → get_or w i 0 < separator
  below m = omega (arith, g.letters i)

  letter-part : part i (i + 1) w ≡ get_or w i 0 ∷ []
  letter-part = let z : i + 1 - i ≡ 1 = omega arith in rw (z, drop-cons w i 0 (omega (arith, g.merged.inside)))

  pub letter-joins : LetterJoins (get_or w i 0) (part (i + 1) (i + 1 + n) w) → (get_or w i 0 < separator) × Merged w i (i + 1 + n)
  letter-joins x = let b = below x.other in (b, turn-joins g b (rw letter-part x.comes))

  -- 1, be it a separator or not
  pub letter-stops : ¬ LetterJoins (get_or w i 0) (part (i + 1) (i + 1 + n) w) → 1 ≡ get_or (separated_table w) i 0
  letter-stops h = go (ℕ_discrete (get_or w i 0) separator)
    where
      one : 1 ≡ i + 1 - i
      one = omega arith

      go : Dec (get_or w i 0 ≡ separator) → 1 ≡ get_or (separated_table w) i 0
      go (yes s) = sym (separated-table-separator w i s)
      go (no m) = one ∙ turn-stops g (below m) (λ k. h (record { other = m; comes = rw letter-part at k }))
