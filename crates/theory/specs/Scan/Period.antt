-- The least period of an inverse Lyndon word g, and one letter more. With p the least period, the letter d = g[length g - p] is what the next letter b meets:
--   b < d   g b is anti-Lyndon (step_less)        b = d   g b is inverse Lyndon with the same least period (step_same, period-same)
--   b > d   g b is not inverse Lyndon (step-more)
-- and the first p letters of g are an anti-Lyndon word (root-anti-lyndon). Borders of g are the suffixes that are prefixes.
use Rattle.std.specs.Prelude.{◌≡◌, List, [], ◌∷◌, ◌++◌, ℕ, ◌-◌, ◌≤◌, ◌<◌, length, take, drop, get_or}
use Rattle.std.proofs.Common.{ap, sym, subst, ◌∙◌, arith, le_refl, length-append, length-drop, drop_of_length-le, take-append-drop, length-take-le}
use Rattle.std.proofs.Math.Decide.{dec_lt}
use Rattle.std.proofs.lemmas.List.{drop-append-le}
use Rattle.std.proofs.Math.Seq.{drop-length}
use Rattle.buffers.proofs.PartLaws.{drop-to}
use Rattle.words.specs.Words.{◌≪◌, here, ◌⊑◌, done, InverseLyndon, AntiLyndon}
use Rattle.theory.specs.Orders.PrefixLaws.{⊑_refl, ⊑-append, ⊑-both, ⊑-drop, ⊑-next, ⊑-split, ⊑_trans, ⊑-under, take-⊑}
use Rattle.theory.specs.Orders.MismatchLaws.{≪-append, ≪-extend, ≪-not-⊑, ≪-trans, ≪-under}
use Rattle.theory.specs.Orders.LexLaws.{◌≤ₗ◌, lost, pre, ≤ₗ-cancel, ≤ₗ-letter, ≤ₗ-not-≪, ≤ₗ-prefixes, ≤ₗ-refl}
use Rattle.theory.specs.Lyndon.WordTests.{anti-lyndon, inverse-lyndon, suffix-below, suffix-loses}

pub record Period (g : List ℕ) (p : ℕ) : Type 0 where
  pub positive : 0 < p
  pub upto : p ≤ length g
  pub repeats : drop p g ⊑ g
  pub least : (q : ℕ) → 0 < q → q < p → ¬ (drop q g ⊑ g)

pub anti-period : {w : List ℕ} → AntiLyndon w → Period w (length w)
anti-period {w} k = record { positive = k.nonempty; upto = le_refl _; repeats = rw drop-length done; least = λ q a b h. ≪-not-⊑ (suffix-loses k q a b) h }

-- of two borders, the shorter is followed in g by a letter no smaller
pub border-letter : {g : List ℕ} → InverseLyndon g → (p i : ℕ) → 0 < p → p ≤ i → i ≤ length g → drop p g ⊑ g → drop i g ⊑ g
    → get_or g (length (drop p g)) 0 ≤ get_or g (length (drop i g)) 0
border-letter {g} k p i s a l z h =
    let b : ℕ = get_or g (length (drop p g)) 0 in
    let y : (drop p g ++ b ∷ []) ⊑ g = ⊑-next z (rw length-drop (omega arith)) in
    let e : drop (i - p) (drop p g) ≡ drop i g = drop-to p i g (omega arith) in
    let d : (drop (i - p) (drop p g) ++ b ∷ []) ⊑ drop (i - p) g
    = rw (drop-append-le (i - p) (drop p g) (b ∷ []) (rw length-drop (omega arith))) at (⊑-drop (i - p) y) in
    let t : (drop i g ++ b ∷ []) ⊑ drop (i - p) g = subst (λ (x : List ℕ). (x ++ b ∷ []) ⊑ drop (i - p) g) e d in
    ≤ₗ-letter (drop i g) t (⊑-next h (rw length-drop (omega arith))) (suffix-below k (i - p))

module _ {g : List ℕ} {p : ℕ} (f : InverseLyndon g) (k : Period g p) where
  -- the letter after any border is no smaller than the letter after the longest
  met-least : (i : ℕ) → 0 < i → i ≤ length g → drop i g ⊑ g → get_or g (length g - p) 0 ≤ get_or g (length (drop i g)) 0
  met-least i s l h =
      let n : ¬ (i < p) = λ q. k.least i s q h in
      rw (length-drop p g) at (border-letter f p i k.positive (omega arith) l k.repeats h)

  pub step_less : (b : ℕ) → b < get_or g (length g - p) 0 → AntiLyndon (g ++ b ∷ [])
  step_less b l = anti-lyndon (rw length-append (omega arith)) (λ i s m. go i s (omega (arith, simp length-append at m)) (suffix-below f i))
    where
      go : (i : ℕ) → 0 < i → i ≤ length g → drop i g ≤ₗ g → drop i (g ++ b ∷ []) ≪ (g ++ b ∷ [])
      go i s m (lost h) = rw (drop-append-le i g (b ∷ []) m) (≪-append _ _ h)
      go i s m (pre h) =
          let c : b < get_or g (length (drop i g)) 0 = omega (arith, met-least i s m h) in
          rw (drop-append-le i g (b ∷ []) m)
          (≪-extend (≪-under (drop i g) (here c)) (⊑_refl _) (⊑_trans (⊑-next h (rw length-drop (omega arith))) (⊑-append g _)))

  pub step_same : (b : ℕ) → b ≡ get_or g (length g - p) 0 → InverseLyndon (g ++ b ∷ [])
  step_same b l = inverse-lyndon (rw length-append (omega arith)) (λ i. go i (dec_lt (length g) i))
    where
      near : (i : ℕ) → i ≤ length g → drop i g ≤ₗ g → Dec (0 < i) → drop i (g ++ b ∷ []) ≤ₗ (g ++ b ∷ [])
      near i m h (no s) = rw (let z : i ≡ 0 = omega arith in z) (≤ₗ-refl _)
      near i m (lost h) (yes s) = rw (drop-append-le i g (b ∷ []) m) (lost (≪-append _ _ h))
      near i m (pre h) (yes s) = rw (drop-append-le i g (b ∷ []) m) (letter (dec_lt b (get_or g (length (drop i g)) 0)))
        where
          on : (drop i g ++ get_or g (length (drop i g)) 0 ∷ []) ⊑ (g ++ b ∷ [])
          on = ⊑_trans (⊑-next h (rw length-drop (omega arith))) (⊑-append g _)

          letter : Dec (b < get_or g (length (drop i g)) 0) → (drop i g ++ b ∷ []) ≤ₗ (g ++ b ∷ [])
          letter (yes x) = lost (≪-extend (≪-under (drop i g) (here x)) (⊑_refl _) on)
          letter (no x) =
              let e : get_or g (length (drop i g)) 0 ≡ b = omega (arith, met-least i s m h) in
              pre (subst (λ (c : ℕ). (drop i g ++ c ∷ []) ⊑ (g ++ b ∷ [])) e on)

      go : (i : ℕ) → Dec (length g < i) → drop i (g ++ b ∷ []) ≤ₗ (g ++ b ∷ [])
      go i (yes m) = rw (drop_of_length-le (g ++ b ∷ []) {i = i} (rw length-append (omega arith))) (pre done)
      go i (no m) = near i (omega arith) (suffix-below f i) (dec_lt 0 i)

  -- the longest border, followed by the letter that it meets
  met : (drop p g ++ get_or g (length g - p) 0 ∷ []) ⊑ g
  met = rw (length-drop p g) at (⊑-next k.repeats (rw length-drop (omega (arith, k.positive, k.upto))))

  pub period-same : (b : ℕ) → b ≡ get_or g (length g - p) 0 → Period (g ++ b ∷ []) p
  period-same b l = record {
    positive = k.positive;
    upto = rw length-append (omega (arith, k.upto));
    repeats = rw (drop-append-le p g (b ∷ []) k.upto, l) (⊑_trans met (⊑-append g _));
    least = λ q s m h. k.least q s m (shorter q (omega (arith, k.upto)) h);
  }
    where
      shorter : (q : ℕ) → q ≤ length g → drop q (g ++ b ∷ []) ⊑ (g ++ b ∷ []) → drop q g ⊑ g
      shorter q m h =
          let y : (drop q g ++ b ∷ []) ⊑ (g ++ b ∷ []) = rw (drop-append-le q g (b ∷ []) m) at h in
          ⊑-both (⊑_trans (⊑-append (drop q g) (b ∷ [])) y) (⊑-append g (b ∷ [])) (rw length-drop (omega arith))

  pub step-more : (b : ℕ) → get_or g (length g - p) 0 < b → ¬ InverseLyndon (g ++ b ∷ [])
  step-more b l h =
      ≤ₗ-not-≪ (rw (drop-append-le p g (b ∷ []) k.upto) at (suffix-below h p))
      (≪-extend (≪-under (drop p g) (here l)) (⊑_trans met (⊑-append g _)) (⊑_refl _))

-- ---- the root: the first p letters

-- t z is a suffix of g = t y, and z begins g: so does t z
border-goes-on : (t y : List ℕ) {z g : List ℕ} → g ≡ t ++ y → (t ++ z) ≤ₗ g → y ≤ₗ g → z ⊑ g → (t ++ z) ⊑ g
border-goes-on t y {z} {g} e h k l = go (≤ₗ-cancel t (rw e at h)) k
  where
    go : z ≤ₗ y → y ≤ₗ g → (t ++ z) ⊑ g
    go (pre x) m = rw e (⊑-under t x)
    go (lost x) (lost m) = absurd (≪-not-⊑ (≪-trans x m) l)
    go (lost x) (pre m) = absurd (≪-not-⊑ (≪-extend x (⊑_refl _) m) l)

module _ {g : List ℕ} {p : ℕ} (f : InverseLyndon g) (k : Period g p) where
  root-size : length (take p g) ≡ p
  root-size = length-take-le p g k.upto

  no-border : (i : ℕ) → 0 < i → i < p → drop i (take p g) ⊑ g → ⊥
  no-border i s l h =
      let e : drop i g ≡ drop i (take p g) ++ drop p g
      = sym (ap (drop i) (take-append-drop p g)) ∙ drop-append-le i (take p g) (drop p g) (rw root-size (omega arith)) in
      let on = border-goes-on (drop i (take p g)) _ (⊑-split h) (rw e at (suffix-below f i)) (suffix-below f (length (drop i (take p g)))) k.repeats in
      k.least i s l (rw e on)

  pub root-anti-lyndon : AntiLyndon (take p g)
  root-anti-lyndon = anti-lyndon (rw root-size k.positive) (λ i s m. go i s (rw root-size at m) (front i))
    where
      front : (i : ℕ) → drop i (take p g) ≤ₗ take p g
      front i = ≤ₗ-prefixes (⊑-drop i (take-⊑ p g)) (take-⊑ p g) (suffix-below f i) (rw length-drop (omega arith))

      go : (i : ℕ) → 0 < i → i < p → drop i (take p g) ≤ₗ take p g → drop i (take p g) ≪ take p g
      go i s m (lost h) = h
      go i s m (pre h) = absurd (no-border i s m (⊑_trans h (take-⊑ p g)))
