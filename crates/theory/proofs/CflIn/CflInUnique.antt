-- THEOREM cfl-in-unique. A strict cut of w in the paper's sense is the computed one. Its first word is the longest anti-Lyndon
-- prefix of w (first-longest), since what follows it comes no later than w.
use Rattle.std.specs.Prelude.{◌≡◌, refl, ℕ, zero, suc, ◌≤◌, ◌<◌, length, take}
use Rattle.std.proofs.Common.{ap, ◌∙◌, zero-le, le_refl, add-zero, arith, length-append, take_at, drop_at, length-take-le}
use mathlib.Core.List.{List, [], ◌∷◌, ◌++◌, flatten}
use Rattle.words.specs.Words.{AntiLyndon}
use Rattle.words.specs.Factorizations.{longest_anti_lyndon, cfl_in, cfl_in_within}
use Rattle.theory.specs.Statements.{EqualOrAfter, Linked, more, CflInOf}
use Rattle.theory.specs.Orders.PrefixLaws.{take-⊑, ⊑-drop}
use Rattle.theory.specs.Orders.MismatchLaws.{≪-extend}
use Rattle.theory.specs.Orders.InverseLaws.{≼-not-≪}
use Rattle.theory.specs.Lyndon.WordTests.{suffix-loses}
use Rattle.theory.specs.Lyndon.AntiLyndonLaws.{longest-unique}
use Rattle.theory.specs.Places.FirstSuffixes.{FirstSuffix, start, later, boundary-first}
use Rattle.theory.proofs.Places.FirstSuffixes.{anti-led}

pub first-longest : (l : List ℕ) (ls : List (List ℕ)) → Linked AntiLyndon EqualOrAfter (l ∷ ls) → longest_anti_lyndon (l ++ flatten ls) ≡ length l
unfolding flatten
first-longest l ls (more s x d) = longest-unique (l ++ flatten ls) (length l) s.nonempty (record {
  upto = rw length-append (omega arith);
  word = λ p. rw (take_at l (flatten ls) (length l) refl) s;
  longer = longer;
})
  where
    f : FirstSuffix (length l) (l ++ flatten ls)
    f = rw add-zero at (boundary-first (anti-led (more s x d)) (later start))

    longer : (j : ℕ) → length l < j → j ≤ length (l ++ flatten ls) → ¬ AntiLyndon (take j (l ++ flatten ls))
    longer j b c t =
        let p = take-⊑ j (l ++ flatten ls) in
        ≼-not-≪ (f 0 zero-le) (≪-extend (suffix-loses t (length l) s.nonempty (rw (length-take-le j (l ++ flatten ls) c) b)) (⊑-drop (length l) p) p)

within-unique : (k : ℕ) (ls : List (List ℕ)) → length (flatten ls) ≤ k → Linked AntiLyndon EqualOrAfter ls → ls ≡ cfl_in_within k (flatten ls)
unfolding cfl_in_within flatten
within-unique zero [] b d = refl
within-unique zero (l ∷ ls) b (more s x d) = absurd (omega (arith, s.nonempty, simp length-append at b))
within-unique (suc k) [] b d = refl
within-unique (suc k) ([] ∷ ls) b (more s x d) = absurd (omega (arith, s.nonempty))
within-unique (suc k) ((a ∷ l) ∷ ls) b (more s x d) =
    rw (first-longest (a ∷ l) ls (more s x d), take_at (a ∷ l) (flatten ls) (length (a ∷ l)) refl, drop_at (a ∷ l) (flatten ls) (length (a ∷ l)) refl)
    (ap (λ (t : List (List ℕ)). (a ∷ l) ∷ t) (within-unique k ls (omega (arith, simp length-append at b)) d))

pub cfl-in-unique : (w : List ℕ) (ls : List (List ℕ)) → CflInOf w ls → ls ≡ cfl_in w
unfolding cfl_in
cfl-in-unique w ls c = within-unique (length w) ls (rw c.product (le_refl _)) c.words ∙ ap (cfl_in_within (length w)) c.product
