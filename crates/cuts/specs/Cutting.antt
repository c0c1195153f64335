-- What finding the cuts asks and promises. No call's promise cites this file.
use Rattle.std.specs.Prelude.{◌≡◌, Option, None, Some, List, [], ◌∷◌, ℕ, ◌*◌, ◌≤◌, ◌<◌, length, take, drop}
use Rattle.words.specs.Words.{most_letters}
use Rattle.words.specs.Separated.{separated_breaks}
use Rattle.words.specs.declared.Break.{Break}
use Rattle.theory.specs.Stretches.CutSteps.{CutBy, Uncut}
use Rattle.theory.specs.Stretches.Cuts.{Cuts}
use Rattle.cuts.specs.declared.Cut.{Cut}
use Rattle.cuts.specs.declared.Counts.{Counts}

-- a record that was accepted, and work entries for it
pub record CutRoom (w work : List ℕ) : Type 0 where
  pub nonempty : 0 < length w
  pub short : length w ≤ most_letters
  pub entries : 3 * length w ≤ length work

-- ---- one cut

abbrev pub CutTold : List ℕ → Option Cut → Type 0
CutTold w None = Uncut w
CutTold w (Some cut) = CutBy w cut.prefix cut.border

pub record FirstCut (w work : List ℕ) (r : Option Cut) (work' : List ℕ) : Type 0 where
  pub told : CutTold w r
  pub kept : drop (length w) work' ≡ drop (length w) work

-- ---- all cuts

-- what is noted of each cut: its place, and |r|
unfoldable pub notes_of : List Break → List ℕ
notes_of [] = []
notes_of (b ∷ bs) = b.place ∷ b.border ∷ notes_of bs

-- the notes of all cuts stand behind the entries of the letters
pub record Noted (w work : List ℕ) (count : ℕ) : Type 0 where
  pub cuts : List Break
  pub walk : Cuts w 0 cuts
  pub number : count ≡ length cuts
  pub notes : take (2 * count) (drop (length w) work) ≡ notes_of cuts

pub record CutsFound (w work : List ℕ) (r : Counts) (work' : List ℕ) : Type 0 where
  pub noted : Noted w work' r.cuts
  pub breaks : r.breaks ≡ length (separated_breaks w)
  pub kept : drop (3 * length w) work' ≡ drop (3 * length w) work
