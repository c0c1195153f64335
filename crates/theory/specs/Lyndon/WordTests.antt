-- The tests of the two kinds of words decide: inverse-lyndon-test, anti-lyndon-test. On the way, the two kinds of words by
-- places, the suffixes being drop i w: suffix-below and inverse-lyndon, suffix-loses and anti-lyndon.
use Rattle.std.specs.Prelude.{◌≡◌, List, [], ◌∷◌, ◌++◌, Bool, true, false, ℕ, zero, suc, ◌<◌, ◌≤◌, length, drop}
use Rattle.std.proofs.Common.{arith, length-drop, drop_of_length-le}
use Rattle.std.proofs.Math.Decide.{dec_lt}
use Rattle.words.specs.Words.{◌≪◌, done, proper, ◌<ₗ◌, ◌≺◌, prefix, mismatch, InverseLyndon, AntiLyndon}
use Rattle.words.specs.Words.{is_lex_less, is_inverse_before, every_suffix, is_inverse_lyndon, is_anti_lyndon}
use Rattle.theory.specs.Orders.LexLaws.{◌≤ₗ◌, lost, pre, ≤ₗ-refl, <ₗ-≤ₗ}
use Rattle.theory.specs.Orders.OrderTests.{lex-less-test, inverse-before-test}
use Rattle.theory.specs.Lyndon.Suffixes.{by_parts, by-places}
use Rattle.theory.specs.Orders.Decisions.{Decides, holds, fails, decides-map}

pub every-suffix-test : (P : List ℕ → Type 0) (test : List ℕ → Bool) → ((s : List ℕ) → Decides (P s) (test s)) → (v : List ℕ)
    → Decides ((i : ℕ) → i < length v → P (drop i v)) (every_suffix test v)
unfolding every_suffix
every-suffix-test P test d [] = holds (λ i h. absurd (omega arith))
every-suffix-test P test d (a ∷ v) = go (d (a ∷ v)) (every-suffix-test P test d v)
  where
    rest : {b : Bool} → P (a ∷ v) → Decides ((i : ℕ) → i < length v → P (drop i v)) b → Decides ((i : ℕ) → i < length (a ∷ v) → P (drop i (a ∷ v))) b
    rest p (holds f) = holds (λ i. elim i as (λ k. k < length (a ∷ v) → P (drop k (a ∷ v))) [ zero ↦ λ l. p | suc j ↦ λ l. f j (omega arith) ])
    rest p (fails n) = fails (λ f. n (λ i l. f (suc i) (omega arith)))

    go : {t : Bool} → Decides (P (a ∷ v)) t → Decides ((i : ℕ) → i < length v → P (drop i v)) (every_suffix test v)
        → Decides ((i : ℕ) → i < length (a ∷ v) → P (drop i (a ∷ v))) (elim t [ true ↦ every_suffix test v | false ↦ false ])
    go (holds p) e = rest p e
    go (fails n) e = fails (λ f. n (f 0 (omega arith)))

proper-suffix-test : (P : List ℕ → Type 0) (test : List ℕ → Bool) → ((s : List ℕ) → Decides (P s) (test s)) → (a : ℕ) (v : List ℕ)
    → Decides ((u s : List ℕ) → u ++ s ≡ a ∷ v → 0 < length u → 0 < length s → P s) (every_suffix test v)
proper-suffix-test P test d a v = decides-map
    (λ f. by_parts P (a ∷ v) 1 (λ i. elim i as (λ k. 1 ≤ k → k < length (a ∷ v) → P (drop k (a ∷ v))) [ zero ↦ λ p l. absurd (omega arith) | suc j ↦ λ p l. f j (omega arith) ]))
    (λ f i l. by-places P (a ∷ v) 1 f (suc i) (omega arith) (omega arith))
    (every-suffix-test P test d v)

-- ---- inverse Lyndon words

pub suffix-below : {w : List ℕ} → InverseLyndon w → (i : ℕ) → drop i w ≤ₗ w
suffix-below {w} k zero = ≤ₗ-refl w
suffix-below {w} k (suc i) = go (dec_lt (suc i) (length w))
  where
    go : Dec (suc i < length w) → drop (suc i) w ≤ₗ w
    go (no l) = rw (drop_of_length-le w {i = suc i} (omega arith)) (pre done)
    go (yes l) = <ₗ-≤ₗ (by-places (λ s. s <ₗ w) w 1 k.exceeds (suc i) (omega arith) l)

pub inverse-lyndon : {w : List ℕ} → 0 < length w → ((i : ℕ) → drop i w ≤ₗ w) → InverseLyndon w
inverse-lyndon {w} p f = record { nonempty = p; exceeds = by_parts (λ s. s <ₗ w) w 1 (λ i q l. go i q l (f i)) }
  where
    go : (i : ℕ) → 0 < i → i < length w → drop i w ≤ₗ w → drop i w <ₗ w
    go i q l (lost h) = mismatch h
    go i q l (pre h) = prefix (proper h (rw length-drop (omega arith)))

pub inverse-lyndon-test : (w : List ℕ) → Decides (InverseLyndon w) (is_inverse_lyndon w)
unfolding is_inverse_lyndon
inverse-lyndon-test [] = fails (λ k. omega (arith, k.nonempty))
inverse-lyndon-test (a ∷ v) = decides-map (λ f. record { nonempty = omega arith; exceeds = f }) (λ k. k.exceeds)
    (proper-suffix-test (λ s. s <ₗ (a ∷ v)) (λ s. is_lex_less s (a ∷ v)) (λ s. lex-less-test s (a ∷ v)) a v)

-- ---- anti-Lyndon words (source 004, Proposition 7.4: a nonempty proper suffix of an anti-Lyndon word is below it by a mismatch)

pub suffix-loses : {w : List ℕ} → AntiLyndon w → (i : ℕ) → 0 < i → i < length w → drop i w ≪ w
suffix-loses {w} k i p l = go (by-places (λ s. w ≺ s) w 1 k.precedes i p l)
  where
    go : w ≺ drop i w → drop i w ≪ w
    go (mismatch h) = h
    go (prefix (proper h m)) = absurd (omega (arith, simp length-drop at m))

pub anti-lyndon : {w : List ℕ} → 0 < length w → ((i : ℕ) → 0 < i → i < length w → drop i w ≪ w) → AntiLyndon w
anti-lyndon {w} p f = record { nonempty = p; precedes = by_parts (λ s. w ≺ s) w 1 (λ i q l. mismatch (f i q l)) }

pub anti-lyndon-test : (w : List ℕ) → Decides (AntiLyndon w) (is_anti_lyndon w)
unfolding is_anti_lyndon
anti-lyndon-test [] = fails (λ k. omega (arith, k.nonempty))
anti-lyndon-test (a ∷ v) = decides-map (λ f. record { nonempty = omega arith; precedes = f }) (λ k. k.precedes)
    (proper-suffix-test (λ s. (a ∷ v) ≺ s) (λ s. is_inverse_before (a ∷ v) s) (λ s. inverse-before-test (a ∷ v) s) a v)
