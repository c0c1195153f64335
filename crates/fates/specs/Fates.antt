-- What telling a cut as a break and writing all breaks ask and promise. No call's promise cites this file.
use Rattle.std.specs.Prelude.{◌≡◌, Bool, true, false, List, [], ◌∷◌, ℕ, ◌+◌, ◌-◌, ◌*◌, ◌≤◌, ◌<◌, length, get_or, ltb}
use Rattle.std.proofs.Math.Seq.{slice}
use Rattle.std.proofs.lemmas.List.Edits.{sets}
use Rattle.words.specs.Separated.{separated_icfl_ends, separated_breaks}
use Rattle.theory.specs.Stretches.Cuts.{breaks_among}
use Rattle.words.specs.declared.Fate.{Fate}
use Rattle.words.specs.declared.Fate.TheVariants.{Kept, Joined}
use Rattle.words.specs.declared.Break.{Break}
use Rattle.cuts.specs.Cutting.{CutRoom, Noted}
use Rattle.breaks.specs.declared.Found.{Found}
use Rattle.fates.specs.declared.Cut.{Cut}
use Rattle.fates.specs.Entries.{entries_of_breaks}

-- both letters lie in the word, and an end past the place is at most |r| away
pub record Near (w : List ℕ) (c : Cut) : Type 0 where
  pub forward : c.begun < c.place
  pub inside : c.place + c.border < length w
  pub near : c.end ≤ c.place + c.border

abbrev pub joined_or_kept : Bool → Fate → Fate → Fate
joined_or_kept true joined kept = joined
joined_or_kept false joined kept = kept

abbrev pub fate_by : List ℕ → Cut → Fate
fate_by w c =
    joined_or_kept (ltb c.place c.end) (Joined (c.border - (c.end - c.place))) (Kept (get_or w (c.begun + c.border) 0) (get_or w (c.place + c.border) 0))

abbrev pub break_by : List ℕ → Cut → Break
break_by w c = record { place = c.place; begun = c.begun; border = c.border; fate = fate_by w c }

-- the entries of a cut that is a break; none of any other
abbrev pub cut_entries : List ℕ → Break → List ℕ
cut_entries w b = entries_of_breaks (breaks_among w (b ∷ []))

-- there is room for its entries
abbrev pub WriteRoom : List ℕ → Break → List ℕ → ℕ → Type 0
WriteRoom w b buffer at = at + length (cut_entries w b) ≤ length buffer

pub record BreakWritten (w : List ℕ) (b : Break) (buffer : List ℕ) (at r : ℕ) (buffer' : List ℕ) : Type 0 where
  pub next : r ≡ at + length (cut_entries w b)
  pub stored : buffer' ≡ sets buffer at (cut_entries w b)

-- ends and notes as find_ends leaves them, and room for five entries a break
pub record Writable (w work : List ℕ) (found : Found) (buffer : List ℕ) : Type 0 where
  pub room : CutRoom w work
  pub inside : found.first < length w
  pub ends : slice found.first (length w) work ≡ separated_icfl_ends w
  pub count : ℕ
  pub noted : Noted w work count
  pub breaks : found.breaks ≡ length (separated_breaks w)
  pub entries : 5 * found.breaks ≤ length buffer
