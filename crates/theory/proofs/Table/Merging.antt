-- Merging neighbouring anti-Lyndon words, the laws behind the Lyndon table from right to left (Merged). The word w[i..j) is anti-Lyndon,
-- and the longest one at j is known: if it comes after w[i..j), both make one (merged-more); else w[i..j) is the longest at i
-- (merged-stops).
use Rattle.std.specs.Prelude.{◌≡◌, ℕ, ◌+◌, ◌-◌, ◌<◌, length, take, drop}
use Rattle.std.proofs.Common.{◌∙◌, arith, length-drop, take-append-drop, take-add, length-take-le}
use mathlib.Core.List.{List, [], ◌++◌, flatten, append-nil}
use Rattle.std.proofs.Math.Seq.{take-length}
use Rattle.buffers.proofs.PartLaws.{drop-to}
use Rattle.words.specs.Words.{◌≺◌, AntiLyndon}
use Rattle.words.specs.Factorizations.{longest_anti_lyndon, cfl_in}
use Rattle.theory.specs.Statements.{EqualOrAfter, Next, end, by, none, more}
use Rattle.theory.specs.Orders.InverseLaws.{◌≼◌, not-≺-≼}
use Rattle.theory.specs.Lyndon.AntiLyndonLaws.{append-anti-lyndon, Longest, longest-is, longest-positive}
use Rattle.theory.proofs.Lyndon.AntiLyndonLaws.{≼-equal-or-after}
use Rattle.theory.proofs.CflIn.CflInIs.{cfl-in-is}
use Rattle.theory.proofs.CflIn.CflInUnique.{first-longest}
use Rattle.theory.proofs.CflIn.CflInUnfold.{cfl-in-step}
use Rattle.theory.specs.Table.Merging.{Merged}

-- ---- two words

-- an anti-Lyndon u, followed by v whose first factor comes no later than u, is the longest anti-Lyndon prefix
pub longest-stops : (u v : List ℕ) → AntiLyndon u → 0 < length v → take (longest_anti_lyndon v) v ≼ u → longest_anti_lyndon (u ++ v) ≡ length u
longest-stops u v s l h = rw (cfl-in-is v).product at (first-longest u (cfl_in v) (more s next (cfl-in-is v).words))
  where
    next : Next EqualOrAfter u (cfl_in v)
    next = rw (cfl-in-step v l) (by (≼-equal-or-after h))

pub longest-whole : (u : List ℕ) → AntiLyndon u → longest_anti_lyndon u ≡ length u
unfolding flatten
longest-whole u s = rw append-nil at (first-longest u [] (more s end none))

module _ (w : List ℕ) (i j : ℕ) (x : Merged w i j) where
  follows : drop (j - i) (drop i w) ≡ drop j w
  follows = drop-to i j w (omega (arith, x.after))

  suffix : take (j - i) (drop i w) ++ drop j w ≡ drop i w
  suffix = rw (← follows) (take-append-drop (j - i) (drop i w))

  size : length (take (j - i) (drop i w)) ≡ j - i
  size = length-take-le (j - i) (drop i w) (rw length-drop (omega (arith, x.inside)))

  pub merged-more : j < length w → take (j - i) (drop i w) ≺ take (longest_anti_lyndon (drop j w)) (drop j w) → Merged w i (j + longest_anti_lyndon (drop j w))
  merged-more l h =
      let n : ℕ = longest_anti_lyndon (drop j w) in
      let y : Longest (drop j w) (length (drop j w)) n = longest-is (drop j w) in
      let p : 0 < n = longest-positive (drop j w) (rw length-drop (omega arith)) in
      let e : j + n - i ≡ j - i + n = omega (arith, x.after) in
      record {
        after = omega (arith, x.after);
        inside = omega (arith, y.upto, length-drop j w);
        word = rw (e, take-add (j - i) n (drop i w), follows) (append-anti-lyndon x.word (y.word p) h);
      }

  pub merged-stops : j < length w → ¬ (take (j - i) (drop i w) ≺ take (longest_anti_lyndon (drop j w)) (drop j w)) → longest_anti_lyndon (drop i w) ≡ j - i
  merged-stops l h =
      let e = longest-stops (take (j - i) (drop i w)) (drop j w) x.word (rw length-drop (omega arith)) (not-≺-≼ _ _ h) in
      rw (suffix, size) at e

  pub merged-ends : j ≡ length w → longest_anti_lyndon (drop i w) ≡ j - i
  merged-ends e =
      let n : length (drop i w) ≡ j - i = rw length-drop (omega arith) in
      longest-whole (drop i w) (rw (← n, take-length (drop i w)) at x.word) ∙ n
