-- The tests of two words decide: lex-less-test, inverse-before-test, same_test.
use Rattle.std.specs.Prelude.{◌≡◌, List, true, false, ℕ, length}
use Rattle.std.proofs.Common.{ap, arith}
use Rattle.words.specs.Words.{proper, ◌<ₗ◌, ◌≺◌, prefix, mismatch, Outcome, is_lex_less, is_inverse_before, is_same}
use Rattle.theory.specs.Orders.MismatchLaws.{≪-asym, Found, less, greater, same, shorter, longer, found}
use Rattle.theory.specs.Orders.LexLaws.{lost, pre, ≤ₗ-refl, <ₗ-not-≤ₗ}
use Rattle.theory.specs.Orders.InverseLaws.{◌≼◌, won, ≺-irrefl, ≺-not-≼}
use Rattle.theory.specs.Orders.Decisions.{Decides, holds, fails}

pub lex-less-test : (x y : List ℕ) → Decides (x <ₗ y) (is_lex_less x y)
unfolding is_lex_less
lex-less-test x y = go (found x y)
  where
    go : {o : Outcome} → Found x y o
        → Decides (x <ₗ y) (elim o [ Outcome.less ↦ true | Outcome.greater ↦ false | Outcome.same ↦ false | Outcome.shorter ↦ true | Outcome.longer ↦ false ])
    go (less h) = holds (mismatch h)
    go (shorter h) = holds (prefix h)
    go (greater h) = fails (λ k. <ₗ-not-≤ₗ k (lost h))
    go (same e) = fails (λ k. <ₗ-not-≤ₗ k (rw e (≤ₗ-refl y)))
    go (longer (proper h l)) = fails (λ k. <ₗ-not-≤ₗ k (pre h))

pub inverse-before-test : (x y : List ℕ) → Decides (x ≺ y) (is_inverse_before x y)
unfolding is_inverse_before
inverse-before-test x y = go (found x y)
  where
    go : {o : Outcome} → Found x y o
        → Decides (x ≺ y) (elim o [ Outcome.less ↦ false | Outcome.greater ↦ true | Outcome.same ↦ false | Outcome.shorter ↦ true | Outcome.longer ↦ false ])
    go (greater h) = holds (mismatch h)
    go (shorter h) = holds (prefix h)
    go (less h) = fails (λ k. ≺-not-≼ k (won h))
    go (same e) = fails (λ k. ≺-irrefl (rw e at k))
    go (longer (proper h l)) = fails (λ k. ≺-not-≼ k (◌≼◌.pre h))

pub same_test : (x y : List ℕ) → Decides (x ≡ y) (is_same x y)
unfolding is_same
same_test x y = go (found x y)
  where
    go : {o : Outcome} → Found x y o
        → Decides (x ≡ y) (elim o [ Outcome.less ↦ false | Outcome.greater ↦ false | Outcome.same ↦ true | Outcome.shorter ↦ false | Outcome.longer ↦ false ])
    go (same e) = holds e
    go (less h) = fails (λ e. ≪-asym (rw e at h) (rw e at h))
    go (greater h) = fails (λ e. ≪-asym (rw e at h) (rw e at h))
    go (shorter (proper h l)) = fails (λ e. omega (arith, ap length e))
    go (longer (proper h l)) = fails (λ e. omega (arith, ap length e))
