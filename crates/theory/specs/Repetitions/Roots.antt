-- THEOREM root. Among the first places of a run, s + 1 to s + p, there is one at which its p letters are an anti-Lyndon word. The windows of p letters that
-- start there are the rotations of one word; two of them differ, since p is the smallest period (windows-differ), so one is above all others (Greatest),
-- and a word above its rotations is anti-Lyndon (rotations-anti-lyndon).
use Rattle.std.specs.Prelude.{◌≡◌, refl, ◌⊎◌, List, ◌++◌, ℕ, zero, suc, ◌+◌, ◌-◌, ◌≤◌, ◌<◌, length, take, drop, get_or}
use Rattle.std.proofs.Common.{ap, sym, subst, ◌∙◌, inl, inr, arith, le_refl, length-drop, take-append-drop, take-add, take-take, drop-drop, ext_get_or}
use Rattle.std.proofs.Math.Decide.{dec_lt, ℕ_discrete}
use Rattle.buffers.proofs.PartLaws.{part-is}
use Rattle.words.specs.Words.{◌≪◌, AntiLyndon}
use Rattle.theory.specs.Orders.PrefixLaws.{⊑_refl, ⊑-append, ⊑-split, ⊑-whole}
use Rattle.theory.specs.Orders.MismatchLaws.{≪-trans, ≪-asym, ≪-append, ≪-extend, ≪-cancel, Related, less, greater, within, beyond, related}
use Rattle.theory.specs.Lyndon.WordTests.{anti-lyndon}
use Rattle.theory.specs.RunStatements.{Repeats, Run}
use Rattle.theory.specs.Repetitions.RunSuffixes.{window, window-length, window-at, same-letter, repeats-at}

-- ---- a word that is above its rotations

rotations-anti-lyndon : (x : List ℕ) → 0 < length x → ((d : ℕ) → 0 < d → d < length x → (drop d x ++ take d x) ≪ x) → AntiLyndon x
rotations-anti-lyndon x o h = anti-lyndon o (λ d a b. go d a b (related (drop d x) x))
  where
    go : (d : ℕ) → 0 < d → d < length x → Related (drop d x) x → drop d x ≪ x
    go d a b (less k) = k
    go d a b (greater k) = absurd (≪-asym (h d a b) (≪-extend k (⊑_refl x) (⊑-append (drop d x) (take d x))))
    go d a b (beyond k l) = absurd (omega (arith, length-drop d x))
    go d a b (within k) =
        let c : ℕ = length (drop d x) in
        let size : c ≡ length x - d = length-drop d x in
        let u : take d x ≪ drop c x = ≪-cancel (drop d x) (subst (λ (y : List ℕ). (drop d x ++ take d x) ≪ y) (⊑-split k) (h d a b)) in
        absurd (≪-asym (h c (omega arith) (omega arith))
        (subst (λ (y : List ℕ). y ≪ (drop c x ++ take c x)) (take-append-drop d x) (≪-append (drop d x) (take c x) u)))

-- ---- windows

windows-equal : (w : List ℕ) (i j m : ℕ) → i + m ≤ length w → j + m ≤ length w → ((t : ℕ) → t < m → get_or w (i + t) 0 ≡ get_or w (j + t) 0)
    → window w i m ≡ window w j m
windows-equal w i j m a b h = ext_get_or 0 (window w i m) (window w j m) (window-length w i m a ∙ sym (window-length w j m b))
    (λ t l. let c : t < m = rw (window-length w i m a) at l in window-at w i m t c ∙ (h t c ∙ sym (window-at w j m t c)))

window-split : (w : List ℕ) (i d m : ℕ) → window w i (d + m) ≡ window w i d ++ window w (i + d) m
window-split w i d m = take-add d m (drop i w) ∙ rw drop-drop

-- p and, over p letters from j on, d are periods: so is d, from s to e
module _ (w : List ℕ) (s e p : ℕ) (h : Repeats w s e p) (o : 0 < p) (j d : ℕ) (a : s ≤ j) (b : j + d + p ≤ e)
    (k : (t : ℕ) → j ≤ t → t < j + p → get_or w t 0 ≡ get_or w (t + d) 0) where
  period-after : (f t : ℕ) → t < f → j ≤ t → t + d < e → get_or w t 0 ≡ get_or w (t + d) 0
  period-after zero t l c g = absurd (omega arith)
  period-after (suc f) t l c g = go (dec_lt t (j + p)) (λ x y z. period-after f x y z)
    where
      go : Dec (t < j + p) → ((x : ℕ) → x < f → j ≤ x → x + d < e → get_or w x 0 ≡ get_or w (x + d) 0) → get_or w t 0 ≡ get_or w (t + d) 0
      go (yes q) next = k t c q
      go (no q) next = sym (repeats-at h (t - p) t (omega arith) (omega arith) (omega arith))
          ∙ (next (t - p) (omega arith) (omega arith) (omega arith) ∙ repeats-at h (t - p + d) (t + d) (omega arith) (omega arith) g)

  period-before : (f t : ℕ) → j - t < f → s ≤ t → t + d < e → get_or w t 0 ≡ get_or w (t + d) 0
  period-before zero t l c g = absurd (omega arith)
  period-before (suc f) t l c g = go (dec_lt t j) (λ x y z. period-before f x y z)
    where
      go : Dec (t < j) → ((x : ℕ) → j - x < f → s ≤ x → x + d < e → get_or w x 0 ≡ get_or w (x + d) 0) → get_or w t 0 ≡ get_or w (t + d) 0
      go (no q) next = period-after (suc t) t (le_refl _) (omega arith) g
      go (yes q) next = repeats-at h t (t + p) c refl (omega arith)
          ∙ (next (t + p) (omega arith) (omega arith) (omega arith) ∙ sym (repeats-at h (t + d) (t + p + d) (omega arith) (omega arith) (omega arith)))

  window-period : Repeats w s e d
  window-period = record { equal = λ t c g. period-before (suc (j - t)) t (le_refl _) c g }

module _ {w : List ℕ} {s e p : ℕ} (r : Run w s e p) where
  windows-differ : (i j : ℕ) → s ≤ i → i < j → j < i + p → j + p ≤ e → ¬ (window w i p ≡ window w j p)
  windows-differ i j a b c l z =
      r.smallest (j - i) (omega arith) (omega arith) (window-period w s e p r.repeats r.positive i (j - i) a (omega arith) equal)
    where
      equal : (t : ℕ) → i ≤ t → t < i + p → get_or w t 0 ≡ get_or w (t + (j - i)) 0
      equal t x y =
          let m : t - i < p = omega arith in
          same-letter w (let q : t ≡ i + (t - i) = omega arith in q)
          ∙ (sym (window-at w i p (t - i) m) ∙ (ap (λ (v : List ℕ). get_or v (t - i) 0) z ∙ (window-at w j p (t - i) m
          ∙ same-letter w (let q : j + (t - i) ≡ t + (j - i) = omega arith in q))))

  windows-related : (i j : ℕ) → s ≤ i → i < j → j < i + p → j + p ≤ e → (window w i p ≪ window w j p) ⊎ (window w j p ≪ window w i p)
  windows-related i j a b c l = go (related (window w i p) (window w j p))
    where
      size : (k : ℕ) → k + p ≤ e → length (window w k p) ≡ p
      size k m = window-length w k p (omega (arith, r.inside))

      go : Related (window w i p) (window w j p) → (window w i p ≪ window w j p) ⊎ (window w j p ≪ window w i p)
      go (less h) = inl h
      go (greater h) = inr h
      go (within h) = absurd (windows-differ i j a b c l (⊑-whole h (omega (arith, size i (omega arith), size j l))))
      go (beyond h k) = absurd (omega (arith, size i (omega arith), size j l))

-- ---- the greatest of the k windows after s

record Greatest (w : List ℕ) (s p k i : ℕ) : Type 0 where
  after : s < i
  upto : i ≤ s + k
  above : (j : ℕ) → s < j → j ≤ s + k → ¬ (j ≡ i) → window w j p ≪ window w i p

greatest : {w : List ℕ} {s e p : ℕ} → Run w s e p → (k : ℕ) → k < p → (i : ℕ) × Greatest w s p (suc k) i
greatest {w} {s} {e} {p} r zero l = (suc s, record { after = omega arith; upto = omega arith; above = λ j a b n. absurd (n (omega arith)) })
greatest {w} {s} {e} {p} r (suc k) l = go (greatest r k (omega arith))
  where
    go : (i : ℕ) × Greatest w s p (suc k) i → (i : ℕ) × Greatest w s p (suc (suc k)) i
    go q = near (windows-related r i c (omega (arith, b.after)) (omega (arith, b.upto)) (omega (arith, b.after)) (omega (arith, r.twice)))
      where
        i : ℕ
        i = q.0

        b : Greatest w s p (suc k) i
        b = q.1

        c : ℕ
        c = s + suc (suc k)

        near : (window w i p ≪ window w c p) ⊎ (window w c p ≪ window w i p) → (i : ℕ) × Greatest w s p (suc (suc k)) i
        near (inl h) = (c, record { after = omega arith; upto = omega arith; above = λ j x y n. over j x y n (ℕ_discrete j i) })
          where
            over : (j : ℕ) → s < j → j ≤ s + suc (suc k) → ¬ (j ≡ c) → Dec (j ≡ i) → window w j p ≪ window w c p
            over j x y n (yes z) = rw z h
            over j x y n (no z) = ≪-trans (b.above j x (omega arith) z) h
        near (inr h) = (i, record { after = b.after; upto = omega (arith, b.upto); above = λ j x y n. over j x y n (ℕ_discrete j c) })
          where
            over : (j : ℕ) → s < j → j ≤ s + suc (suc k) → ¬ (j ≡ i) → Dec (j ≡ c) → window w j p ≪ window w i p
            over j x y n (yes z) = rw z h
            over j x y n (no z) = b.above j x (omega arith) n

module _ {w : List ℕ} {s e p i : ℕ} (r : Run w s e p) (b : Greatest w s p p i) where
  -- a rotation of the window at i is another window
  rotation-below : (d m : ℕ) → d + m ≡ p → 0 < d → 0 < m → (window w (i + d) m ++ window w i d) ≪ window w i p
  rotation-below d m z o n = go (dec_lt (s + p) (i + d))
    where
      go : Dec (s + p < i + d) → (window w (i + d) m ++ window w i d) ≪ window w i p
      go (no h) =
          let x : window w (i + d) p ≡ window w (i + d) m ++ window w i d
          = ap (λ (n : ℕ). window w (i + d) n) (let q : p ≡ m + d = omega arith in q) ∙ (window-split w (i + d) m d
          ∙ ap (λ (v : List ℕ). window w (i + d) m ++ v)
          (windows-equal w (i + d + m) i d (omega (arith, r.inside, r.twice)) (omega (arith, r.inside, r.twice))
          (λ t l. sym (repeats-at r.repeats (i + t) (i + d + m + t) (omega (arith, b.after)) (omega arith) (omega (arith, r.twice)))))) in
          rw x at (b.above (i + d) (omega (arith, b.after)) (omega arith) (λ q. omega arith))
      go (yes h) =
          let k : ℕ = i + d - p in
          let x : window w k p ≡ window w (i + d) m ++ window w i d
          = ap (λ (n : ℕ). window w k n) (let q : p ≡ m + d = omega arith in q) ∙ (window-split w k m d
          ∙ (ap (λ (n : ℕ). window w k m ++ window w n d) (let q : k + m ≡ i = omega arith in q)
          ∙ ap (λ (v : List ℕ). v ++ window w i d)
          (windows-equal w k (i + d) m (omega (arith, b.upto, r.inside, r.twice)) (omega (arith, b.upto, r.inside, r.twice))
          (λ t l. repeats-at r.repeats (k + t) (i + d + t) (omega arith) (omega arith) (omega (arith, b.upto, r.twice)))))) in
          rw x at (b.above k (omega arith) (omega (arith, b.upto)) (λ q. omega arith))

  greatest-anti-lyndon : AntiLyndon (window w i p)
  greatest-anti-lyndon =
      let n : length (window w i p) ≡ p = window-length w i p (omega (arith, b.upto, r.inside, r.twice)) in
      rotations-anti-lyndon (window w i p) (omega (arith, r.positive))
      (λ d a l. rw (← part-is d p (drop i w), drop-drop, take-take d p (drop i w) (omega arith)) (rotation-below d (p - d) (omega arith) a (omega arith)))

-- ---- the root

pub record Root (w : List ℕ) (s p i : ℕ) : Type 0 where
  pub after : s < i
  pub upto : i ≤ s + p
  pub word : AntiLyndon (window w i p)

pub root : {w : List ℕ} {s e p : ℕ} → Run w s e p → (i : ℕ) × Root w s p i
root {w} {s} {e} {p} r =
    let q : (i : ℕ) × Greatest w s p p i
    = subst (λ (n : ℕ). (i : ℕ) × Greatest w s p n i) (let z : suc (p - 1) ≡ p = omega (arith, r.positive) in z)
    (greatest r (p - 1) (omega (arith, r.positive))) in
    (q.0, record { after = q.1.after; upto = q.1.upto; word = greatest-anti-lyndon r q.1 })
