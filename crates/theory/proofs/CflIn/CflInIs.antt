-- THEOREM cfl-in-is. The computed strict cut is a division of the paper's kind (source 004, Theorem 2.1 for the inverse order).
use Rattle.std.specs.Prelude.{refl, ℕ, zero, suc, ◌+◌, ◌≤◌, ◌<◌, length, take, drop}
use mathlib.Core.List.{List, [], ◌∷◌, ◌++◌, flatten}
use Rattle.std.proofs.Common.{le_refl, arith, length-drop, take-append-drop, take-add}
use Rattle.words.specs.Words.{AntiLyndon}
use Rattle.words.specs.Factorizations.{longest_anti_lyndon, cfl_in, cfl_in_within}
use Rattle.theory.specs.Statements.{EqualOrAfter, Next, end, by, none, more, CflInOf}
use Rattle.theory.specs.Orders.InverseLaws.{◌≼◌}
use Rattle.theory.specs.Lyndon.AntiLyndonLaws.{not-append, Longest, longest-is, longest-positive}
use Rattle.theory.proofs.Lyndon.AntiLyndonLaws.{≼-equal-or-after}

-- l, and every anti-Lyndon prefix of v no later than l: so is the first word of the cut of v
within-next : (k : ℕ) (v l : List ℕ) → ((n : ℕ) → 0 < n → n ≤ length v → AntiLyndon (take n v) → take n v ≼ l) → Next EqualOrAfter l (cfl_in_within k v)
unfolding cfl_in_within
within-next zero v l h = end
within-next (suc k) [] l h = end
within-next (suc k) (a ∷ v) l h =
    let x : Longest (a ∷ v) (length (a ∷ v)) (longest_anti_lyndon (a ∷ v)) = longest-is (a ∷ v) in
    let p : 0 < longest_anti_lyndon (a ∷ v) = longest-positive (a ∷ v) (omega arith) in
    by (≼-equal-or-after (h (longest_anti_lyndon (a ∷ v)) p x.upto (x.word p)))

pub within-cfl-in : (k : ℕ) (w : List ℕ) → length w ≤ k → CflInOf w (cfl_in_within k w)
unfolding cfl_in_within flatten
within-cfl-in zero [] l = record { product = refl; words = none }
within-cfl-in zero (a ∷ w) l = absurd (omega arith)
within-cfl-in (suc k) [] l = record { product = refl; words = none }
within-cfl-in (suc k) (a ∷ w) l =
    let n : ℕ = longest_anti_lyndon (a ∷ w) in
    let x : Longest (a ∷ w) (length (a ∷ w)) n = longest-is (a ∷ w) in
    let p : 0 < n = longest-positive (a ∷ w) (omega arith) in
    let s : AntiLyndon (take n (a ∷ w)) = x.word p in
    let rest : CflInOf (drop n (a ∷ w)) (cfl_in_within k (drop n (a ∷ w))) = within-cfl-in k (drop n (a ∷ w)) (rw length-drop (omega arith)) in
    let longer : (j : ℕ) → 0 < j → j ≤ length (drop n (a ∷ w)) → ¬ AntiLyndon (take n (a ∷ w) ++ take j (drop n (a ∷ w)))
    = λ j c d. rw (← take-add n j (a ∷ w)) (x.longer (n + j) (omega arith) (omega (arith, x.upto, simp length-drop at d))) in
    record {
      product = rw rest.product (take-append-drop n (a ∷ w));
      words = more s (within-next k (drop n (a ∷ w)) (take n (a ∷ w)) (λ j c d t. not-append s t (longer j c d))) rest.words;
    }

pub cfl-in-is : (w : List ℕ) → CflInOf w (cfl_in w)
unfolding cfl_in
cfl-in-is w = within-cfl-in (length w) w (le_refl _)
