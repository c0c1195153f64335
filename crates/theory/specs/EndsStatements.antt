-- DEFINITIONS. What is said of a list of ends of a record: request 109's conditions (Ours), and what a judge of such a list answers (Verdict).
use Rattle.std.specs.Prelude.{◌≡◌, List, [], ◌∷◌, ℕ, suc, length, take}
use Rattle.std.proofs.Math.Seq.{slice}
use Rattle.words.specs.Words.{InverseLyndon}
use Rattle.words.specs.Separated.{separated_icfl_ends}
use Rattle.theory.specs.Statements.{BelowByBorders, Part}
use Rattle.theory.specs.SeparatedStatements.{MarkOr, UnlessMark}
use Rattle.theory.specs.Places.EndsRise.{Rises}

-- a division of w by its ends: they rise from 0 to its length, every part has P, and each has R to the next
pub record Division (P : List ℕ → Type 0) (R : List ℕ → List ℕ → Type 0) (w es : List ℕ) : Type 0 where
  pub rises : Rises (length w) 0 es
  pub parts : (i j : ℕ) → Part es i j → P (slice i j w)
  pub neighbours : (i j k : ℕ) → Part es i j → Part es j k → R (slice i j w) (slice j k w)

-- request 109: "pieces fall, each loses to the next at a shared byte, and no nonempty proper beginning of a piece that also ends it begins the next"
abbrev pub OursUnmarked : List ℕ → List ℕ → Type 0
OursUnmarked w es = Division InverseLyndon BelowByBorders w es

-- the same of a record, "With marks .. in each stretch between them": a mark is a part by itself, and neighbours are judged where neither is one
abbrev pub Ours : List ℕ → List ℕ → Type 0
Ours w es = Division (MarkOr InverseLyndon) (UnlessMark BelowByBorders) w es

-- the last end, or i where there is none: after the ends of a run of parts from i on, the place where the next part begins
unfoldable pub last_end : ℕ → List ℕ → ℕ
last_end i [] = i
last_end i (e ∷ es) = last_end e es

-- the first q letters tell that es are not the ends of w: they are those of no record of its length that begins with these letters
abbrev pub Tells : List ℕ → List ℕ → ℕ → Type 0
Tells w es q = (v : List ℕ) → length v ≡ length w → take q v ≡ take q w → ¬ (separated_icfl_ends v ≡ es)

-- what a judge answers: 0 for the ends of w, or how many letters tell that they are not
pub data Verdict (w es : List ℕ) : ℕ → Type 0 where
  ours : separated_icfl_ends w ≡ es → Verdict w es 0
  other : {q : ℕ} → Tells w es (suc q) → Verdict w es (suc q)
