-- What the summary's lines tell where they pass (ends-admitted, all-admitted): the list is one that the loop takes (summable).
use mathlib.Core.Path.{◌≡◌}
use mathlib.Core.List.{List, ◌++◌}
use Prim.Native.Nat.{ℕ, ◌≤◌, ◌<◌}
use native.Mathlib.Omega.{arith}
use lib.ListN.{length}
use Rattle.words.specs.Words.{most_letters}
use Rattle.theory.specs.Places.EndsRise.{Rises}
use Rattle.theory.specs.Places.EndsRise.{rises-few, rises-inside, rises-at}
use Rattle.checks.specs.Lines.{Line, tried, Accepted, Passed}
use Rattle.checks.proofs.LineLaws.{both-passed, unmet}
use Rattle.words.specs.Pairs.{ends_of}
use Rattle.theory.specs.Places.PairedLists.{paired-rise, paired-number}
use Rattle.pairs.proofs.PairsLaws.{pairs-accepted}
use Rattle.summary.specs.Summary.{summary_lines, Summable}

-- a record that is not too long, and ends, at least one, that rise to its length
pub record EndsAccepted (w es : List ℕ) : Type 0 where
  pub letters : length w ≤ most_letters
  pub some : 0 < length es
  pub rises : Rises (length w) 0 es

pub ends-admitted : (w ps : List ℕ) → Accepted w → tried (summary_lines w ps) ≡ Passed → EndsAccepted w (ends_of ps)
ends-admitted w ps a e =
    let v = pairs-accepted ps (length w) (unmet (summary_lines w ps) e).0 in
    record { letters = a.short; some = omega (arith, v.some, paired-number v.paired); rises = paired-rise v.paired }

-- the same of all lines of the call, whatever stands at its door
pub all-admitted : (door : List Line) (w ps : List ℕ) → (tried door ≡ Passed → Accepted w) → tried (door ++ summary_lines w ps) ≡ Passed
    → EndsAccepted w (ends_of ps)
all-admitted door w ps g e = let b = both-passed door (summary_lines w ps) e in ends-admitted w ps (g b.0) b.1

pub summable : {w es : List ℕ} → EndsAccepted w es → Summable es
summable v = record {
  rising = λ k l. (rises-at v.rises k l).0;
  short = λ k. omega (arith, rises-inside v.rises k, v.letters);
  few = omega (arith, rises-few v.rises, v.letters);
}
