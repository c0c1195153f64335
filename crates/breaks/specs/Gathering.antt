-- What gathering the ends asks and promises. No call's promise cites this file.
use Rattle.std.specs.Prelude.{◌≡◌, List, ℕ, ◌*◌, ◌<◌, length, drop}
use Rattle.std.proofs.Math.Seq.{slice}
use Rattle.words.specs.Separated.{separated_icfl_ends, separated_breaks}
use Rattle.cuts.specs.Cutting.{Noted}
use Rattle.breaks.specs.declared.Found.{Found}

-- the ends stand in front of the notes
pub record EndsGathered (w work : List ℕ) (first : ℕ) (work' : List ℕ) : Type 0 where
  pub inside : first < length w
  pub ends : slice first (length w) work' ≡ separated_icfl_ends w
  pub kept : drop (length w) work' ≡ drop (length w) work

pub record CutFound (w work : List ℕ) (r : Found) (work' : List ℕ) : Type 0 where
  pub inside : r.first < length w
  pub ends : slice r.first (length w) work' ≡ separated_icfl_ends w
  pub count : ℕ
  pub noted : Noted w work' count
  pub breaks : r.breaks ≡ length (separated_breaks w)
  pub kept : drop (3 * length w) work' ≡ drop (3 * length w) work
