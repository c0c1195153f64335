-- DEFINITIONS. Demand 3, for a record w, the ends es that the piece cut wrote, the ends ss that the strict cut wrote, and the comparison's answers; and what
-- three calls gave (Given).
use Rattle.std.specs.Prelude.{◌≡◌, ◌⊎◌, ℕ, ◌-◌, ◌*◌, ◌≤◌, ◌<◌, min, max, length, take, pos, negsuc, ℤ}
use mathlib.Core.List.{List, ◌++◌, Memᴰ}
use Rattle.std.proofs.Math.Seq.{slice}
use Rattle.words.specs.Words.{◌≪◌, ◌⊑◌, ◌<ₗ◌}
use Rattle.words.specs.Separated.{UpToSeparator}
use Rattle.words.specs.Pairs.{ends_of}
use Rattle.theory.specs.Statements.{SignOf, SharedMost, Part, WholePieces, Compatible}
use Rattle.theory.specs.SeparatedStatements.{UnlessMark, UnmarkedPieces}
use Rattle.compare.specs.Compare.{sign_said, common_said}
use Rattle.checks.specs.Answers.{Says, gives}
use Rattle.demands.specs.Calls.{Calls}

-- a stretch of a record of n bytes, and two starts in it
pub record Inside (n first end start other : ℕ) : Type 0 where
  pub range : end ≤ n
  pub start-from : first ≤ start
  pub start-below : start < end
  pub other_from : first ≤ other
  pub other-below : other < end

pub record Demand3 (w es ss : List ℕ) (compare : ℕ → ℕ → ℕ → ℕ → Says (ℤ × ℕ)) : Type 0 where
  -- "For every stretch of whole neighbouring pieces and every two different starting minutes inside it, the inverse order found from that stretch alone is
  -- exactly the one found when both run to the record's end."
  -- Request 103: "The promise about two starting minutes covers stretches without marks".
  pub compatible : Compatible (UnmarkedPieces w es) (length w) (λ first end start other. sign_said (compare first end start other))
  pub decided : (first end start other : ℕ) → WholePieces es first end → first ≤ start → start < end → first ≤ other → other < end → ¬ (start ≡ other)
      → (sign_said (compare first end start other) ≡ negsuc 0) ⊎ (sign_said (compare first end start other) ≡ pos 1)
  -- of any stretch: "It compares the two remainders of the stretch in the inverse order: −1 if the first start's comes first, 0 if the starts are equal, +1
  -- otherwise."
  pub signed : (first end start other : ℕ) → Inside (length w) first end start other
      → SignOf w first end start other (sign_said (compare first end start other))
  -- request 104, of any stretch: "the number of equal leading bytes before the stretch ends for either of them. For equal starts that is the whole remainder."
  pub shared : (first end start other : ℕ) → Inside (length w) first end start other
      → SharedMost w end start other (common_said (compare first end start other))
  pub remainder : (first end start other : ℕ) → Inside (length w) first end start other → start ≡ other
      → common_said (compare first end start other) ≡ end - start
  pub either : (first end start other : ℕ) → Inside (length w) first end start other
      → common_said (compare first end start other) ≡ common_said (compare first end other start)
  -- the smaller of the number to the record's end and what the stretch leaves after the later start
  pub within : (first end start other : ℕ) → Inside (length w) first end start other
      → common_said (compare first end start other) ≡ min (common_said (compare 0 (length w) start other)) (end - max start other)
  -- "In natural byte order each piece exceeds every shorter ending of its own, and each but the last loses to the next piece at a byte that both have." Request
  -- 103: "a piece is measured against the next only where neither is a mark".
  pub exceeds : (i j : ℕ) → Part es i j → (u s : List ℕ) → u ++ s ≡ slice i j w → 0 < length u → 0 < length s → s <ₗ slice i j w
  pub loses : (i j k : ℕ) → Part es i j → Part es j k → UnlessMark ◌≪◌ (slice i j w) (slice j k w)
  -- "Every piece ends where a strict piece ends, and wherever a strict piece and the one after it lie in one piece, the first begins with the whole of the
  -- second."
  pub strict : (e : ℕ) → Memᴰ e es → Memᴰ e ss
  pub nested : (a b i j k : ℕ) → Part es a b → Part ss i j → Part ss j k → a ≤ i → k ≤ b → slice j k w ⊑ slice i j w

-- what three calls gave for one record of 1 to most bytes
pub record Given (most : ℕ) (c : Calls) (w es ss : List ℕ) (compare : ℕ → ℕ → ℕ → ℕ → Says (ℤ × ℕ)) : Type 0 where
  pub nonempty : 1 ≤ length w
  pub short : length w ≤ most
  pub bytes : UpToSeparator w
  pub piece_cut : (work pairs work' pairs' : List ℕ) × (n : ℕ) × c.PieceCut w work pairs (gives n) work' pairs' × (es ≡ ends_of (take (2 * n) pairs'))
  pub strict_cut : (ends ends' : List ℕ) × (n : ℕ) × c.StrictCut w ends (gives n) ends' × (ss ≡ take n ends')
  pub comparison : (first end start other : ℕ) → c.Comparing w first end start other (compare first end start other)
