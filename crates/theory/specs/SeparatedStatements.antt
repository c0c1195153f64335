-- DEFINITIONS. What is said of a record with separators (request 103): its factors, its breaks and ends, and demand 3. Where words are compared, the separator is a letter
-- as any other: "The comparison treats 255 as before."
use Rattle.std.specs.Prelude.{◌≡◌, ◌⊎◌, ℕ, ◌+◌, ◌≤◌, ◌<◌, length}
use mathlib.Core.List.{List, [], ◌∷◌, ◌++◌, flatten, Memᴰ}
use Rattle.std.proofs.Math.Seq.{slice}
use Rattle.words.specs.Words.{◌≪◌, ◌⊑◌, ◌<ₗ◌, sign}
use Rattle.words.specs.Factorizations.{breaks_from}
use Rattle.theory.specs.Statements.{Linked, kept_places, Part, WholePieces, Compatible}
use Rattle.words.specs.declared.Break.{Break}
use Rattle.words.specs.Separated.{mark, Unmarked, separated_icfl_ends, separated_cfl_in_ends}

-- ---- factors

-- a separator, or a word of the kind P that holds none
abbrev pub MarkOr : (List ℕ → Type 0) → List ℕ → Type 0
MarkOr P m = (m ≡ mark) ⊎ (P m × Unmarked m)

-- R, "only where neither is a mark"
abbrev pub UnlessMark : (List ℕ → List ℕ → Type 0) → List ℕ → List ℕ → Type 0
UnlessMark R m n = ¬ (m ≡ mark) → ¬ (n ≡ mark) → R m n

-- a division of w into separators and words of the kind P, each of which has R to the next where neither is a separator
pub record SeparatedOf (P : List ℕ → Type 0) (R : List ℕ → List ℕ → Type 0) (w : List ℕ) (ms : List (List ℕ)) : Type 0 where
  pub product : flatten ms ≡ w
  pub words : Linked (MarkOr P) (UnlessMark R) ms

-- ---- breaks and ends

-- a break i places later: "Breaks are given by stretch, in the record's places"
abbrev pub moved : ℕ → Break → Break
moved i b = record { place = i + b.place; begun = i + b.begun; border = b.border; fate = b.fate }

-- the end of a nonempty stretch that begins at place i
unfoldable pub stretch_end : ℕ → List ℕ → List ℕ
stretch_end i [] = []
stretch_end i (a ∷ v) = (i + length (a ∷ v)) ∷ []

-- es i v for each stretch v that begins at place i, and between them the ends of the separators
unfoldable pub ends_over : (ℕ → List ℕ → List ℕ) → ℕ → List (List ℕ) → List ℕ
ends_over es i [] = []
ends_over es i (v ∷ []) = es i v
ends_over es i (v ∷ u ∷ vs) = es i v ++ (i + length v + 1) ∷ ends_over es (i + length v + 1) (u ∷ vs)

-- "The kept breaks and the record's end are exactly the piece ends", for a stretch
abbrev pub kept_ends_of : ℕ → List ℕ → List ℕ
kept_ends_of i v = kept_places (breaks_from i v) ++ stretch_end i v

-- ---- demand 3: the fields of Demand3, with "The promise about two starting minutes covers stretches without marks, and a piece is measured against the next only
-- where neither is a mark."

abbrev pub UnmarkedPieces : List ℕ → List ℕ → ℕ → ℕ → Type 0
UnmarkedPieces w es first end = WholePieces es first end × Unmarked (slice first end w)

pub record SeparatedDemand3 (w : List ℕ) : Type 0 where
  pub compatible : Compatible (UnmarkedPieces w (separated_icfl_ends w)) (length w) (sign w)
  pub exceeds : (i j : ℕ) → Part (separated_icfl_ends w) i j → (u s : List ℕ) → u ++ s ≡ slice i j w → 0 < length u → 0 < length s → s <ₗ slice i j w
  pub loses : (i j k : ℕ) → Part (separated_icfl_ends w) i j → Part (separated_icfl_ends w) j k → UnlessMark ◌≪◌ (slice i j w) (slice j k w)
  pub strict : (e : ℕ) → Memᴰ e (separated_icfl_ends w) → Memᴰ e (separated_cfl_in_ends w)
  pub nested : (a b i j k : ℕ) → Part (separated_icfl_ends w) a b → Part (separated_cfl_in_ends w) i j → Part (separated_cfl_in_ends w) j k → a ≤ i → k ≤ b
      → slice j k w ⊑ slice i j w
