-- THEOREM examples. The definitions compute the longest part and where the latest one of its length begins: of one part; of record H's pieces; where all
-- parts are equally long, where the longest are neighbours, and where one of them follows after a shorter part.
use Rattle.std.specs.Prelude.{◌≡◌, refl, List, [], ◌∷◌, ℕ}
use Rattle.summary.specs.Summary.{summary_of}

abbrev LongestAt : List ℕ → ℕ → ℕ → Type 0
LongestAt es longest from = ((summary_of es).longest ≡ longest) × ((summary_of es).from ≡ from)

pub record Examples : Type 0 where
  pub one : LongestAt (9 ∷ []) 9 0
  pub h : LongestAt (5 ∷ 9 ∷ []) 5 0
  pub all : LongestAt (1 ∷ 2 ∷ 3 ∷ []) 1 2
  pub neighbours : LongestAt (2 ∷ 4 ∷ 5 ∷ []) 2 2
  pub apart : LongestAt (2 ∷ 4 ∷ 5 ∷ 7 ∷ 8 ∷ []) 2 5

pub examples : Examples
unfolding summary_of
examples = record { one = (refl, refl); h = (refl, refl); all = (refl, refl); neighbours = (refl, refl); apart = (refl, refl) }
