-- What the functions that hold a listing's lists against the record ask and decide. No call's promise cites this file.
use Rattle.std.specs.Prelude.{◌≡◌, Bool, Option, List, ℕ, ◌<◌, length}
use Rattle.std.proofs.Math.Seq.{slice}
use Rattle.words.specs.Separated.{separated_cfl_in_ends}
use Rattle.words.specs.Pairs.{separated_pairs}
use Rattle.theory.specs.Orders.Decisions.{Decides}
use Rattle.theory.specs.Judging.Judge.{judged_turn}
use Rattle.parsing.specs.Parsing.{Left, PairsLeft}

-- one pair that fits: the judge finds no fault at its end, and its count is that of its part alone
abbrev pub PartFits : List ℕ → ℕ → ℕ → ℕ → ℕ → Type 0
PartFits w first end next count = (judged_turn w first end next ≡ 0) × (count ≡ length (separated_cfl_in_ends (slice first end w)))

-- whichever pairs stand in the text from a place on: the answer is whether they are the record's own
abbrev pub PairsDecided : List ℕ → List ℕ → Option ℕ → Bool → Type 0
PairsDecided w t at r = (ps : List ℕ) → 0 < length ps → PairsLeft t at ps → Decides (ps ≡ separated_pairs w) r

-- the strict ends alike; commas (44) stand between them
abbrev pub StrictDecided : List ℕ → List ℕ → Option ℕ → Bool → Type 0
StrictDecided w t at r = (es : List ℕ) → Left 44 44 t at es → Decides (es ≡ separated_cfl_in_ends w) r
