-- What the reader's lines tell where they pass: part k lies in the record (placed).
use mathlib.Core.Path.{◌≡◌}
use mathlib.Core.List.{List}
use Prim.Native.Nat.{ℕ, ◌≤◌, ◌<◌}
use lib.ListN.{length, get_or}
use borrow.Author.Tests.{leb-false}
use Rattle.words.specs.Pairs.{ends_of}
use Rattle.theory.specs.Places.EndsRise.{rises-inside, rises-at}
use Rattle.theory.specs.Places.PairedLists.{paired-rise}
use Rattle.pairs.specs.PairedList.{factor_begin}
use Rattle.pairs.proofs.PairsLaws.{pairs-accepted}
use Rattle.checks.specs.Lines.{tried, Passed}
use Rattle.checks.proofs.LineLaws.{unmet}
use Rattle.reading.specs.Factor.{factor_lines}

pub record Placed (w es : List ℕ) (k : ℕ) : Type 0 where
  pub listed : k < length es
  pub ordered : factor_begin es k < get_or es k 0
  pub inside : get_or es k 0 ≤ length w

pub placed : (w ps : List ℕ) (k : ℕ) → tried (factor_lines w ps k) ≡ Passed → Placed w (ends_of ps) k
placed w ps k e =
    let u = unmet (factor_lines w ps k) e in
    let r = paired-rise (pairs-accepted ps (length w) u.0).paired in
    let l = leb-false (length (ends_of ps)) k u.1.0 in
    record { listed = l; ordered = (rises-at r k l).0; inside = rises-inside r k }
