-- What the functions that hold a listing's numbers against its pairs ask and promise. No call's promise cites this file.
use Rattle.std.specs.Prelude.{◌≡◌, Option, List, Bool, ℕ}
use Rattle.words.specs.Pairs.{ends_of}
use Rattle.theory.specs.Orders.Decisions.{Decides}
use Rattle.summary.specs.Summary.{Summable, summary_of}
use Rattle.summary.specs.declared.Summary.{Summary}
use Rattle.parsing.specs.Parsing.{Left, PairsLeft}

-- pairs stand in the text whose ends can be summed up
pub record Summed (t : List ℕ) (at : Option ℕ) : Type 0 where
  pub pairs : List ℕ
  pub left : PairsLeft t at pairs
  pub summable : Summable (ends_of pairs)

-- their summary
pub record SummedUp (t : List ℕ) (at : Option ℕ) (r : Summary) : Type 0 where
  pub pairs : List ℕ
  pub left : PairsLeft t at pairs
  pub is : r ≡ summary_of (ends_of pairs)

-- whichever numbers stand there, with commas (44) between them: the answer is whether they are these
abbrev pub ListDecided : List ℕ → Option ℕ → List ℕ → Bool → Type 0
ListDecided t at ns r = (vs : List ℕ) → Left 44 44 t at vs → Decides (vs ≡ ns) r
