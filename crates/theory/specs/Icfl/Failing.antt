-- The shortest failing prefix and its shortest suffix above it, by the order; then that they make an Extension.
--   Failing w l          the first l letters are the shortest nonempty prefix of w that is not inverse Lyndon: l is failing_length w
--   Shortest u r         the last r + 1 letters of u are its shortest suffix with u ≪ it
--   extension-at         p and r letters so found are an Extension
use Rattle.std.specs.Prelude.{◌≡◌, List, [], ◌∷◌, ◌++◌, Bool, not, ℕ, zero, suc, ◌+◌, ◌-◌, ◌≤◌, ◌<◌, length, take, drop, get_or}
use Rattle.std.proofs.Common.{ap, sym, ◌∙◌, append_assoc, arith, length-drop, take-append-drop, drop_of_length-le, drop-drop, drop-cons, drop_at, take-add, take-suc, length-take-le}
use Rattle.std.proofs.Math.Decide.{dec_lt}
use Rattle.std.proofs.Math.Seq.{take-length}
use Rattle.words.specs.Words.{◌≪◌, done, proper, ◌<ₗ◌, prefix, mismatch, InverseLyndon, is_lex_less, is_inverse_lyndon}
use Rattle.words.specs.Factorizations.{failing_length}
use Rattle.theory.specs.Orders.PrefixLaws.{take-⊑}
use Rattle.theory.specs.Orders.LexLaws.{◌≤ₗ◌, pre, ≤ₗ-refl, ≤ₗ-≪-trans, not-<ₗ-≤ₗ}
use Rattle.theory.specs.Orders.MismatchLaws.{≪-asym}
use Rattle.theory.specs.Orders.Decisions.{Decides, holds, fails, decides_not, Least, found, never, least-is, least-unique}
use Rattle.theory.specs.Orders.OrderTests.{lex-less-test}
use Rattle.theory.specs.Lyndon.WordTests.{inverse-lyndon, inverse-lyndon-test}
use Rattle.theory.specs.Icfl.Extension.{Extension, prefix-inverse-lyndon}

-- ---- the shortest failing prefix

pub record Failing (w : List ℕ) (l : ℕ) : Type 0 where
  pub positive : 0 < l
  pub inside : l ≤ length w
  pub fails : ¬ InverseLyndon (take l w)
  pub before : (n : ℕ) → 0 < n → n < l → InverseLyndon (take n w)

failing-test : (w : List ℕ) (n : ℕ) → Decides (¬ InverseLyndon (take n w)) (not (is_inverse_lyndon (take n w)))
failing-test w n = decides_not (inverse-lyndon-test (take n w))

not-failing : (w : List ℕ) → ¬ ¬ InverseLyndon w → InverseLyndon w
not-failing w n = go (inverse-lyndon-test w)
  where
    go : {t : Bool} → Decides (InverseLyndon w) t → InverseLyndon w
    go (holds k) = k
    go (fails k) = absurd (n k)

pub failing-is : (w : List ℕ) → 0 < length w → ¬ InverseLyndon w → Failing w (failing_length w)
unfolding failing_length
failing-is w s n = go (least-is (λ n. ¬ InverseLyndon (take n w)) (λ n. not (is_inverse_lyndon (take n w))) (failing-test w) (length w) 1)
  where
    go : {l : ℕ} → Least (λ n. ¬ InverseLyndon (take n w)) (length w) 1 l → Failing w l
    go (found p a b m) = record { positive = a; inside = omega arith; fails = p; before = λ j c d. not-failing (take j w) (m j c d) }
    go (never m) = absurd (m (length w) s (omega arith) (rw take-length n))

pub failing-unique : (w : List ℕ) (l : ℕ) → Failing w l → failing_length w ≡ l
unfolding failing_length
failing-unique w l k = least-unique (λ n. ¬ InverseLyndon (take n w)) (λ n. not (is_inverse_lyndon (take n w))) (failing-test w) (length w) 1 l
    k.fails k.positive (omega (arith, k.inside)) (λ j a b n. n (k.before j a b))

pub failing-not : {w : List ℕ} {l : ℕ} → Failing w l → ¬ InverseLyndon w
failing-not {w} {l} x k = x.fails (prefix-inverse-lyndon (take-⊑ l w) (rw (length-take-le l w x.inside) x.positive) k)

-- ---- its shortest suffix above it

pub record Shortest (u : List ℕ) (r : ℕ) : Type 0 where
  pub inside : r < length u
  pub above : u ≪ drop (length u - suc r) u
  pub shorter : (k : ℕ) → length u - suc r < k → drop k u ≤ₗ u
  pub word : InverseLyndon (drop (length u - suc r) u)

-- the last r + 1 letters of u
abbrev last_letters : List ℕ → ℕ → List ℕ
last_letters u r = drop (length u - suc r) u

-- source 004, Lemma 3.1: a nonempty word that is not inverse Lyndon has a suffix above it
pub shortest-is : (u : List ℕ) → 0 < length u → ¬ InverseLyndon u → (r : ℕ) × Shortest u r
shortest-is u s n = go (least-is (λ r. u <ₗ last_letters u r) (λ r. is_lex_less u (last_letters u r)) (λ r. lex-less-test u (last_letters u r)) (length u) 0)
  where
    above : (r : ℕ) → u <ₗ last_letters u r → u ≪ last_letters u r
    above r (mismatch h) = h
    above r (prefix (proper h l)) = absurd (omega (arith, simp length-drop at l))

    below : (m : ℕ) → ((j : ℕ) → 0 ≤ j → j < m → ¬ (u <ₗ last_letters u j)) → (k : ℕ) → length u ≤ k + m → drop k u ≤ₗ u
    below m h k l = near (dec_lt k (length u))
      where
        near : Dec (k < length u) → drop k u ≤ₗ u
        near (yes b) =
            let e : length u - suc (length u - suc k) ≡ k = omega arith in
            not-<ₗ-≤ₗ u (drop k u) (rw e at (h (length u - suc k) (omega arith) (omega arith)))
        near (no b) = rw (drop_of_length-le u {i = k} (omega arith)) (pre done)

    go : {m : ℕ} → Least (λ r. u <ₗ last_letters u r) (length u) 0 m → (r : ℕ) × Shortest u r
    go {m} (found p a b h) = (
      m,
      record {
        inside = omega arith;
        above = above m p;
        shorter = λ k l. below m h k (omega arith);
        word = inverse-lyndon (rw length-drop (omega arith))
            (λ k. elim k as (λ j. drop j (last_letters u m) ≤ₗ last_letters u m) [ zero ↦ ≤ₗ-refl _ | suc j ↦ rw drop-drop (≤ₗ-≪-trans (below m h (length u - suc m + suc j) (omega arith)) (above m p)) ]);
      },
    )
    go (never h) = absurd (n (inverse-lyndon s (λ k. below (length u) (λ j a b. h j a (omega arith)) k (omega arith))))

-- ---- the two together

module _ (w : List ℕ) (p r : ℕ) (x : Failing w (suc (p + r))) where
  prefix-parts : take (suc (p + r)) w ≡ take p w ++ (take r (drop p w) ++ get_or w (p + r) 0 ∷ [])
  prefix-parts = rw (take-suc w (p + r) 0 x.inside, take-add, append_assoc)

  pub suffix-parts : drop p (take (suc (p + r)) w) ≡ take r (drop p w) ++ get_or w (p + r) 0 ∷ []
  suffix-parts = rw (prefix-parts, drop_at (take p w) _ p (length-take-le p w (omega (arith, x.inside))))

  pub rest-parts : drop p w ≡ take r (drop p w) ++ get_or w (p + r) 0 ∷ drop (suc (p + r)) w
  rest-parts = sym (take-append-drop r (drop p w)) ∙ ap (λ (t : List ℕ). take r (drop p w) ++ t) (drop-drop r p w ∙ drop-cons w (p + r) 0 x.inside)

  module _ (y : Shortest (take (suc (p + r)) w) r) where
    start : length (take (suc (p + r)) w) - suc r ≡ p
    start = omega (arith, length-take-le (suc (p + r)) w x.inside)

    positive : 0 < p + r
    positive =
        let n : ¬ (p ≡ 0) = λ z. let above = rw (start, z) at y.above in ≪-asym above above in
        omega arith

    pub extension-at : Extension w (take p w) (take r (drop p w)) (get_or w (p + r) 0) (drop (suc (p + r)) w)
    extension-at = record {
      is = sym (take-append-drop p w) ∙ ap (λ (t : List ℕ). take p w ++ t) rest-parts;
      front = rw (← take-add p r w) (x.before (p + r) positive (omega arith));
      above = rw (start, suffix-parts, prefix-parts) at y.above;
      shortest = rw (start, suffix-parts) at y.word;
    }
