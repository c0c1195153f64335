-- The places of a word whose suffix comes first, in the inverse order, among it and all earlier suffixes; and the boundaries of a
-- list of words. Boundaries of both factorizations are such places, and those of an anti-Lyndon factorization are all of them
-- (boundary-first, first-boundary). Within a range that ends at such a place suffixes compare as to the end (range-before, before-range).
use Rattle.std.specs.Prelude.{◌≡◌, ℕ, zero, suc, ◌+◌, ◌-◌, ◌<◌, length, drop}
use Rattle.std.proofs.Common.{le_refl, arith, drop_of_length-le, drop-drop}
use mathlib.Core.List.{List, ◌++◌, flatten, append_assoc}
use Rattle.std.proofs.Math.Decide.{dec_lt}
use Rattle.words.specs.Words.{done, AntiLyndon}
use Rattle.theory.specs.Statements.{EqualOrAfter, Next, Linked}
use Rattle.theory.specs.Orders.PrefixLaws.{⊑-split}
use Rattle.theory.specs.Orders.MismatchLaws.{≪-append}
use Rattle.theory.specs.Orders.InverseLaws.{◌≼◌, won, pre, ≼_refl, ≼_trans, ≼-under}
use Rattle.theory.specs.Lyndon.WordTests.{suffix-loses}
use Rattle.theory.proofs.Lyndon.AntiLyndonLaws.{equal-or-after-≼}
use Rattle.theory.specs.Places.FirstSuffixes.{Leads, Led, more, none}

-- ---- anti-Lyndon lists

anti-before : {w : List ℕ} → AntiLyndon w → (i : ℕ) → i < length w → w ≼ drop i w
anti-before k zero h = ≼_refl _
anti-before k (suc i) h = won (suffix-loses k (suc i) (omega arith) h)

-- n comes no later than the anti-Lyndon word m, and s no later than n ++ s: then n ++ s leads m
lead-step : {m n s : List ℕ} → AntiLyndon m → 0 < length n → n ≼ m → s ≼ (n ++ s) → (k j : ℕ) → length m - j < k → (n ++ s) ≼ (drop j m ++ (n ++ s))
lead-step a p b h zero j l = absurd (omega arith)
lead-step {m} {n} {s} a p b h (suc k) j l = go (dec_lt j (length m)) (λ i c. lead-step a p b h k i c)
  where
    near : ((i : ℕ) → length m - i < k → (n ++ s) ≼ (drop i m ++ (n ++ s))) → j < length m → n ≼ drop j m → (n ++ s) ≼ (drop j m ++ (n ++ s))
    near next c (won x) = won (≪-append _ _ x)
    near next c (pre x) =
        let e : drop j m ≡ n ++ drop (j + length n) m = rw drop-drop at (⊑-split x) in
        rw (e, append_assoc) (≼-under n (≼_trans h (next (j + length n) (omega arith))))

    go : Dec (j < length m) → ((i : ℕ) → length m - i < k → (n ++ s) ≼ (drop i m ++ (n ++ s))) → (n ++ s) ≼ (drop j m ++ (n ++ s))
    go (yes c) next = near next c (≼_trans b (anti-before a j c))
    go (no c) next = rw (drop_of_length-le m {i = j} (omega arith)) (≼_refl _)

anti-leads : {m : List ℕ} {ms : List (List ℕ)} → Linked AntiLyndon EqualOrAfter ms → AntiLyndon m → Next EqualOrAfter m ms → Leads m (flatten ms)
unfolding flatten
anti-leads Linked.none a x i = pre done
anti-leads (Linked.more t y d) a (Next.by x) i = lead-step a t.nonempty (equal-or-after-≼ x) (anti-leads d t y 0) _ i (le_refl _)

pub anti-led : {ms : List (List ℕ)} → Linked AntiLyndon EqualOrAfter ms → Led ms
anti-led Linked.none = none
anti-led (Linked.more a x d) = more (anti-leads d a x) (anti-led d)
