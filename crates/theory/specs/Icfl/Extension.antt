-- One step of the factorization: a word p r b q whose prefix p r is inverse Lyndon, while p r b is below its suffix r b, which is
-- inverse Lyndon itself, the shortest such suffix (source 004, Definition 4.2: r b is the bounded right extension of p).
-- Main laws: a dominated factorization of r b q gives one of the whole by join_first (join-first-dominated, join-first-product).
use Rattle.std.specs.Prelude.{◌≡◌, Bool, true, false, ℕ, ◌≤◌, ◌<◌, drop}
use Rattle.std.proofs.Math.Path.{ap}
use Rattle.std.proofs.Common.{sym, subst, arith, length-drop}
use mathlib.Core.List.{List, [], ◌∷◌, ◌++◌, flatten, append_assoc}
use Rattle.std.proofs.Math.ListN.{length, length-append}
use Rattle.std.proofs.lemmas.List.{drop-append-le}
use Rattle.std.proofs.Math.Seq.{drop-append_seam}
use Rattle.words.specs.Words.{◌≪◌, ◌⊑◌, done, step, InverseLyndon}
use Rattle.words.specs.Factorizations.{join_first}
use Rattle.theory.specs.Statements.{DominatedBy, Next, end, by, more}
use Rattle.theory.specs.Orders.PrefixLaws.{⊑_refl, ⊑_trans, ⊑-both, ⊑-append, ⊑-drop, ⊑-under, ⊑-split}
use Rattle.theory.specs.Orders.MismatchLaws.{≪-asym, ≪-not-⊑, ≪-extend, ≪-cancel, ≪-left-nonempty, Related, less, greater, within, beyond, related}
use Rattle.theory.specs.Orders.LexLaws.{◌≤ₗ◌, pre, ≤ₗ-not-≪, ≤ₗ-≪-long, ≤ₗ-≪-prefix, ≤ₗ-prefixes}
use Rattle.theory.specs.Orders.Decisions.{Decides, holds, fails, leb-test}
use Rattle.theory.specs.Lyndon.WordTests.{suffix-below, inverse-lyndon}
use Rattle.theory.specs.Lyndon.Suffixes.{Begins, first, second, begins, Dominated, dominated-at, dominated}

-- a nonempty prefix of an inverse Lyndon word is one (source 004, Lemma 3.2)
pub prefix-inverse-lyndon : {x y : List ℕ} → x ⊑ y → 0 < length x → InverseLyndon y → InverseLyndon x
prefix-inverse-lyndon {x} p l k = inverse-lyndon l (λ i. ≤ₗ-prefixes (⊑-drop i p) p (suffix-below k i) (rw length-drop (omega arith)))

-- x, followed by a prefix of the inverse Lyndon word s, is below s by a mismatch: so is x alone
below-alone : {x z s : List ℕ} → InverseLyndon s → z ⊑ s → (x ++ z) ≪ s → x ≪ s
below-alone {x} {z} {s} k p h = go (related x s)
  where
    go : Related x s → x ≪ s
    go (less l) = l
    go (greater l) = absurd (≪-asym h (≪-extend l (⊑_refl s) (⊑-append x z)))
    go (beyond l m) = absurd (≤ₗ-not-≪ (pre (⊑_trans l (⊑-append x z))) h)
    go (within l) =
        let t : List ℕ = drop (length x) s in
        let h' : (x ++ z) ≪ (x ++ t) = subst (λ (y : List ℕ). (x ++ z) ≪ y) (⊑-split l) h in
        absurd (≤ₗ-not-≪ (suffix-below k (length x)) (≪-extend (≪-cancel x h') p (⊑_refl t)))

pub record Extension (w p r : List ℕ) (b : ℕ) (q : List ℕ) : Type 0 where
  pub is : w ≡ p ++ (r ++ b ∷ q)
  pub front : InverseLyndon (p ++ r)
  pub above : (p ++ (r ++ b ∷ [])) ≪ (r ++ b ∷ [])
  pub shortest : InverseLyndon (r ++ b ∷ [])

module _ {w p r : List ℕ} {b : ℕ} {q : List ℕ} (k : Extension w p r b q) where
  pub extension-below : p ≪ (r ++ b ∷ [])
  extension-below = below-alone k.shortest (⊑_refl _) k.above

  pub extension-nonempty : 0 < length p
  extension-nonempty = ≪-left-nonempty extension-below

  -- with each of its nonempty suffixes
  extension-suffix : (i : ℕ) → i < length p → drop i p ≪ (r ++ b ∷ [])
  extension-suffix i l =
      let h : (drop i p ++ r) ≤ₗ (p ++ r) = rw (drop-append-le i p r (omega arith)) at (suffix-below k.front i) in
      below-alone k.shortest (⊑-append r _)
      (≤ₗ-≪-long h (≪-extend extension-below (⊑-append p r) (⊑_refl _)) (simp (length-append, length-drop) (omega arith)))

  -- source 004, Lemma 4.1
  pub extension-prefix : r ⊑ p
  extension-prefix = go (related r p)
    where
      go : Related r p → r ⊑ p
      go (within h) = h
      go (less h) = absurd (≪-asym extension-below (≪-extend h (⊑-append r _) (⊑_refl p)))
      go (greater h) = absurd (≤ₗ-not-≪ (rw drop-append_seam at (suffix-below k.front (length p))) (≪-extend h (⊑-append p r) (⊑_refl r)))
      go (beyond h l) = absurd (≪-not-⊑ extension-below (⊑_trans h (⊑-append r _)))

  -- m, a prefix of r, is joined to p
  join-suffix : {m n : List ℕ} → InverseLyndon (p ++ m) → m ⊑ p → 0 < length m → DominatedBy m n → DominatedBy (p ++ m) n
  join-suffix {m} {n} j s l d = dominated (λ i h. go i h (begins p m i))
    where
      go : (i : ℕ) → i < length (p ++ m) → Begins p m i → drop i (p ++ m) ≪ n
      go i h (first c e) = ≤ₗ-≪-prefix (suffix-below j i) (⊑_trans s (⊑-append p m)) (dominated-at {m = m} d 0 l) (rw e (simp length-append (omega arith)))
      go i h (second t c e) = rw e (dominated-at d t (omega (arith, simp length-append at h)))

  join-next : {m : List ℕ} {ms : List (List ℕ)} → InverseLyndon (p ++ m) → m ⊑ p → 0 < length m → Next DominatedBy m ms → Next DominatedBy (p ++ m) ms
  join-next j s l end = end
  join-next j s l (by {n = n} d) = by (join-suffix {n = n} j s l d)

  -- joined: m is a prefix of r; kept: r b is a prefix of m
  joined : {m : List ℕ} {ms : List (List ℕ)} → m ⊑ (r ++ b ∷ q) → length m ≤ length r → Dominated (m ∷ ms) → Dominated ((p ++ m) ∷ ms)
  joined {m} c l (more i d g) =
      let in-r : m ⊑ r = ⊑-both c (⊑-append r _) l in
      let j : InverseLyndon (p ++ m) = prefix-inverse-lyndon (⊑-under p in-r) (rw length-append (omega (arith, i.nonempty))) k.front in
      more j (join-next j (⊑_trans in-r extension-prefix) i.nonempty d) g

  kept : {m : List ℕ} {ms : List (List ℕ)} → m ⊑ (r ++ b ∷ q) → length r < length m → Dominated (m ∷ ms) → Dominated (p ∷ m ∷ ms)
  kept {m} c l g =
      let s : (r ++ b ∷ []) ⊑ m = ⊑-both (⊑-under r (step done)) c (rw length-append (omega arith)) in
      let j : InverseLyndon p = prefix-inverse-lyndon (⊑-append p r) extension-nonempty k.front in
      more j (by (dominated (λ i h. ≪-extend (extension-suffix i h) (⊑_refl _) s))) g

  pub join-first-dominated : (ms : List (List ℕ)) → Dominated ms → flatten ms ≡ r ++ b ∷ q → Dominated (join_first p (length r) ms)
  unfolding join_first flatten
  join-first-dominated [] g e = absurd (let z : 0 ≡ length (r ++ b ∷ q) = ap length e in omega (arith, simp length-append at z))
  join-first-dominated (m ∷ ms) g e = go (leb-test (length m) (length r))
    where
      c : m ⊑ (r ++ b ∷ q)
      c = rw e at (⊑-append m (flatten ms))

      go : {t : Bool} → Decides (length m ≤ length r) t → Dominated (elim t [ true ↦ (p ++ m) ∷ ms | false ↦ p ∷ m ∷ ms ])
      go (holds l) = joined c l g
      go (fails l) = kept c (omega arith) g

  pub join-first-product : (ms : List (List ℕ)) → flatten ms ≡ r ++ b ∷ q → flatten (join_first p (length r) ms) ≡ w
  unfolding join_first flatten
  join-first-product [] e = absurd (let z : 0 ≡ length (r ++ b ∷ q) = ap length e in omega (arith, simp length-append at z))
  join-first-product (m ∷ ms) e = go (leb-test (length m) (length r))
    where
      all : p ++ (m ++ flatten ms) ≡ w
      all = rw e (sym k.is)

      go : {t : Bool} → Decides (length m ≤ length r) t → flatten (elim t [ true ↦ (p ++ m) ∷ ms | false ↦ p ∷ m ∷ ms ]) ≡ w
      go (holds l) = rw append_assoc all
      go (fails l) = all
