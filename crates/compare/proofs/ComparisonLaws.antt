-- The comparison's own lines pass just where both starts lie in a range of the word (within, within-passes).
use mathlib.Core.Path.{◌≡◌}
use mathlib.Core.List.{List}
use Prim.Native.Nat.{ℕ, ◌≤◌, ◌<◌}
use native.Mathlib.Omega.{arith}
use lib.ListN.{length}
use lib.Dec.{leb, ltb}
use borrow.Author.Tests.{ltb-false, leb-false, le-ltb, lt-leb}
use Rattle.checks.specs.Lines.{tried, Passed}
use Rattle.conditions.proofs.ConditionLaws.{either-unmet}
use Rattle.checks.proofs.LineLaws.{unmet, all_pass}
use Rattle.compare.specs.Compare.{compare_lines}

pub record Within (w : List ℕ) (first end start other : ℕ) : Type 0 where
  pub inside : end ≤ length w
  pub start-from : first ≤ start
  pub start-below : start < end
  pub other_from : first ≤ other
  pub other-below : other < end

module _ (w : List ℕ) (first end start other : ℕ) where
  pub within : tried (compare_lines (length w) first end start other) ≡ Passed → Within w first end start other
  within e =
      let u = unmet (compare_lines (length w) first end start other) e in
      let range = either-unmet (leb end first) (ltb (length w) end) u.0 in
      let one = either-unmet (ltb start first) (leb end start) u.1.0 in
      let two = either-unmet (ltb other first) (leb end other) u.1.1.0 in
      record {
        inside = ltb-false (length w) end range.1;
        start-from = ltb-false start first one.0;
        start-below = leb-false end start one.1;
        other_from = ltb-false other first two.0;
        other-below = leb-false end other two.1;
      }

  pub within-passes : Within w first end start other → tried (compare_lines (length w) first end start other) ≡ Passed
  within-passes x =
      let range : first < end = omega (arith, x.start-from, x.start-below) in
      all_pass (compare_lines (length w) first end start other)
      (rw (
        lt-leb end first range,
        le-ltb (length w) end x.inside,
        le-ltb start first x.start-from,
        lt-leb end start x.start-below,
        le-ltb other first x.other_from,
        lt-leb end other x.other-below,
      ) search)
