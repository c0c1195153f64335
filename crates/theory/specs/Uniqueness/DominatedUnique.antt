-- A word has at most one dominated factorization (source 004 has uniqueness of the computed one only, Proposition 4.2).
use Rattle.std.specs.Prelude.{◌≡◌, refl, ◌⊎◌, ℕ, zero, suc, ◌+◌, ◌≤◌, ◌<◌, length}
use Rattle.std.proofs.Common.{ap, sym, inl, inr, le_refl, arith, length-append}
use mathlib.Core.List.{List, [], ◌∷◌, ◌++◌, flatten, append_cancel_left}
use Rattle.std.proofs.Math.Seq.{drop-append_seam}
use Rattle.words.specs.Words.{◌⊑◌}
use Rattle.theory.specs.Statements.{DominatedBy, Next, by, more}
use Rattle.theory.specs.Orders.PrefixLaws.{⊑-append, ⊑-length, ⊑-whole}
use Rattle.theory.specs.Orders.MismatchLaws.{≪-extend}
use Rattle.theory.specs.Orders.LexLaws.{≤ₗ-not-≪}
use Rattle.theory.specs.Lyndon.WordTests.{suffix-below}
use Rattle.theory.specs.Lyndon.Suffixes.{Past, overlap, Dominated, dominated-at, next-suffix}

-- the first word is a prefix of s
abbrev BeginsWithin : List (List ℕ) → List ℕ → Type 0
BeginsWithin [] s = Unit {0}
BeginsWithin (m ∷ ms) s = m ⊑ s

-- s ends a word of one list and is dominated by that list's next word, while the other list's next word begins with s and
-- reaches past it, by t: then t stands to the first list as s did to the second, and the lists run out.
clash : (k : ℕ) (s : List ℕ) (ms ns : List (List ℕ)) → length ms + length ns ≤ k → 0 < length s → s ++ flatten ns ≡ flatten ms
    → Next DominatedBy s ns → Dominated ms → Dominated ns → ¬ BeginsWithin ms s → ⊥
unfolding flatten
clash zero s [] ns l p e d gm gn out = out tt
clash zero s (m ∷ ms) ns l p e d gm gn out = omega arith
clash (suc k) s [] ns l p e d gm gn out = out tt
clash (suc k) s (m ∷ ms) ns l p e d (more i dm gm) gn out = go (overlap s m e) (λ t. clash k t ns ms)
  where
    go : (m ⊑ s) ⊎ Past s (flatten ns) m (flatten ms)
        → ((t : List ℕ) → length ns + length ms ≤ k → 0 < length t → t ++ flatten ms ≡ flatten ns
        → Next DominatedBy t ms → Dominated ns → Dominated ms → ¬ BeginsWithin ns t → ⊥) → ⊥
    go (inl h) next = out h
    go (inr q) next = next q.over (omega arith) q.nonempty (sym q.rest) (next-suffix s (rw q.is at dm)) gn gm (past ns d q.rest)
      where
        past : (ls : List (List ℕ)) → Next DominatedBy s ls → flatten ls ≡ q.over ++ flatten ms → ¬ BeginsWithin ls q.over
        past [] x y h = omega (arith, q.nonempty, simp length-append at (ap length y))
        past (n ∷ ls) (by x) y h =
            ≤ₗ-not-≪ (rw drop-append_seam at (rw q.is at (suffix-below i (length s)))) (≪-extend (dominated-at x 0 p) (⊑-append s q.over) h)

pub dominated-unique : (ms ns : List (List ℕ)) → Dominated ms → Dominated ns → flatten ms ≡ flatten ns → ms ≡ ns
unfolding flatten
dominated-unique [] [] gm gn e = refl
dominated-unique [] (n ∷ ns) gm (more i d g) e = absurd (omega (arith, i.nonempty, simp length-append at (ap length e)))
dominated-unique (m ∷ ms) [] (more i d g) gn e = absurd (omega (arith, i.nonempty, simp length-append at (ap length e)))
dominated-unique (m ∷ ms) (n ∷ ns) (more i d g) (more i' d' g') e = go (overlap m n e) (overlap n m (sym e)) (dominated-unique ms ns g g')
  where
    longer : (x y u v : List ℕ) → Past x u y v → ¬ (y ⊑ x)
    longer x y u v q h = omega (arith, ⊑-length h, q.nonempty, simp length-append at (ap length q.is))

    go : (n ⊑ m) ⊎ Past m (flatten ms) n (flatten ns) → (m ⊑ n) ⊎ Past n (flatten ns) m (flatten ms)
        → (flatten ms ≡ flatten ns → ms ≡ ns) → m ∷ ms ≡ n ∷ ns
    go (inl h) (inl h') next =
        let same : m ≡ n = ⊑-whole h' (⊑-length h) in
        let rest : flatten ms ≡ flatten ns = append_cancel_left m (flatten ms) (flatten ns) (rw (← same) at e) in
        cc (next rest)
    go (inr q) x next = absurd (clash _ m (n ∷ ns) ms (le_refl _) i.nonempty e d (more i' d' g') g (longer _ _ _ _ q))
    go (inl h) (inr q) next = absurd (clash _ n (m ∷ ms) ns (le_refl _) i'.nonempty (sym e) d' (more i d g) g' (longer _ _ _ _ q))
