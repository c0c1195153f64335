-- A run and the Lyndon table. Where the period breaks off before the word ends, the letter there is larger or smaller than the one a period before; the
-- word's end counts as larger (EndsUp). Just then the suffix one period later comes before (suffix-before, suffix-ends-up), and a place of the run whose
-- first period is an anti-Lyndon word has the period as its entry (root-entry, entry-ends-up). There is at most one such place among the first ones
-- (one-root), and an entry that repeats is the smallest period (entry-smallest).
use Rattle.std.specs.Prelude.{◌≡◌, ◌⊎◌, List, ℕ, ◌+◌, ◌-◌, ◌≤◌, ◌<◌, length, drop, get_or}
use Rattle.std.proofs.Common.{sym, ◌∙◌, inl, inr, arith, length-drop, get_or-drop}
use Rattle.std.proofs.Math.Decide.{dec_lt}
use Rattle.buffers.proofs.PartLaws.{drop-to}
use Rattle.words.specs.Words.{◌≺◌, mismatch, AntiLyndon}
use Rattle.theory.specs.Orders.PrefixLaws.{take-⊑, ⊑-drop, ⊑-letters}
use Rattle.theory.specs.Orders.MismatchLaws.{≪-extend, ≪-not-⊑}
use Rattle.theory.specs.Orders.InverseLaws.{◌≼◌, ≼_trans, ≺-≼, ≺-not-≼, not-≺-≼, ≼-not-≪}
use Rattle.theory.specs.Orders.CommonLength.{Agree, agree-sym, agree-shorter, agree-≪}
use Rattle.theory.specs.Lyndon.WordTests.{suffix-loses}
use Rattle.theory.specs.Table.LyndonTableNext.{NextBefore}
use Rattle.theory.proofs.Table.LyndonTableNext.{lyndon-table-next}
use Rattle.theory.specs.RunStatements.{Repeats, Run}
use Rattle.theory.specs.Repetitions.RunSuffixes.{EndsUp, entry-anti-lyndon, entry_at, repeats-at, repeats-before, repeats-more, same-letter, window, window-at, window-length}

module _ {w : List ℕ} {s e p : ℕ} (r : Run w s e p) where
  pub run-breaks : e < length w → ¬ (get_or w (e - p) 0 ≡ get_or w e 0)
  run-breaks l h = r.right l (repeats-more r.repeats (omega (arith, r.twice)) h)

  pub run-begins : 0 < s → ¬ (get_or w (s - 1) 0 ≡ get_or w (s - 1 + p) 0)
  run-begins l h = r.left l (repeats-before r.repeats l h)

  -- ---- suffixes

  pub run_agree : (i : ℕ) → s ≤ i → i + p ≤ e → Agree (drop i w) (drop (i + p) w) (e - i - p)
  run_agree i a b = record {
    matched = record {
      left = rw length-drop (omega (arith, r.inside));
      right = rw length-drop (omega (arith, r.inside));
      equal = λ t l. rw (get_or-drop i w, get_or-drop (i + p) w) (repeats-at r.repeats (i + t) (i + p + t) (omega arith) (omega arith) (omega arith));
    };
    differ = λ h k z.
        let c : get_or w (i + (e - i - p)) 0 ≡ get_or w (i + p + (e - i - p)) 0 = rw (get_or-drop i w, get_or-drop (i + p) w) at z in
        run-breaks (omega (arith, length-drop (i + p) w)) (same-letter w (omega arith) ∙ (c ∙ same-letter w (omega arith)));
  }

  -- the letters where they part
  module _ (l : e < length w) (i : ℕ) (a : s ≤ i) (b : i + p ≤ e) where
    parts_at : get_or (drop i w) (e - i - p) 0 ≡ get_or w (e - p) 0
    parts_at = get_or-drop i w (e - i - p) 0 ∙ same-letter w (omega arith)

    parts-later : get_or (drop (i + p) w) (e - i - p) 0 ≡ get_or w e 0
    parts-later = get_or-drop (i + p) w (e - i - p) 0 ∙ same-letter w (omega arith)

    parts-before : (e - i - p < length (drop i w)) × (e - i - p < length (drop (i + p) w))
    parts-before = (rw length-drop (omega arith), rw length-drop (omega arith))

  pub suffix-before : EndsUp w e p → (i : ℕ) → s ≤ i → i + p ≤ e → drop (i + p) w ≺ drop i w
  suffix-before u i a b = go (dec_lt e (length w))
    where
      g : Agree (drop i w) (drop (i + p) w) (e - i - p)
      g = run_agree i a b

      go : Dec (e < length w) → drop (i + p) w ≺ drop i w
      go (no l) = agree-shorter (agree-sym g) (rw length-drop (omega (arith, r.inside))) (rw (length-drop, length-drop) (omega (arith, r.positive, r.inside)))
      go (yes l) =
          let inside = parts-before l i a b in
          mismatch (agree-≪ g inside.0 inside.1 (omega (arith, u l, parts_at l i a b, parts-later l i a b)))

  pub suffix-ends-up : (i : ℕ) → s ≤ i → i + p ≤ e → drop (i + p) w ≺ drop i w → EndsUp w e p
  suffix-ends-up i a b h l = go (dec_lt (get_or w (e - p) 0) (get_or w e 0))
    where
      go : Dec (get_or w (e - p) 0 < get_or w e 0) → get_or w (e - p) 0 < get_or w e 0
      go (yes k) = k
      go (no k) =
          let inside = parts-before l i a b in
          let larger : get_or (drop (i + p) w) (e - i - p) 0 < get_or (drop i w) (e - i - p) 0 = let d = run-breaks l in omega (arith, parts_at l i a b, parts-later l i a b) in
          absurd (≼-not-≪ (≺-≼ h) (agree-≪ (agree-sym (run_agree i a b)) inside.1 inside.0 larger))

pub entry-inside : (w : List ℕ) (i : ℕ) → i < length w → i + entry_at w i ≤ length w
entry-inside w i l = (lyndon-table-next w i l).inside

pub entry-positive : (w : List ℕ) (i : ℕ) → i < length w → 0 < entry_at w i
entry-positive w i l = let h = (lyndon-table-next w i l).after in omega arith

next-not-earlier : {w : List ℕ} {i j k : ℕ} → NextBefore w i j → NextBefore w i k → ¬ (j < k)
next-not-earlier {w} {i} {j} {k} x y l = go x.stops
  where
    go : (j ≡ length w) ⊎ (drop j w ≺ drop i w) → ⊥
    go (inl e) = omega (arith, y.inside)
    go (inr h) = y.between j x.after l h

pub entry-is : {w : List ℕ} {i p : ℕ} → i < length w → NextBefore w i (i + p) → entry_at w i ≡ p
entry-is {w} {i} {p} l x =
    let y : NextBefore w i (i + entry_at w i) = lyndon-table-next w i l in
    let a : ¬ (i + p < i + entry_at w i) = next-not-earlier x y in
    let b : ¬ (i + entry_at w i < i + p) = next-not-earlier y x in
    omega arith

-- a suffix of an anti-Lyndon word at i is not before it
window-first : (w : List ℕ) (i p : ℕ) → i + p ≤ length w → AntiLyndon (window w i p) → (k : ℕ) → i < k → k < i + p → ¬ (drop k w ≺ drop i w)
window-first w i p l x k a b h =
    let n : length (window w i p) ≡ p = window-length w i p l in
    let q = take-⊑ p (drop i w) in
    ≼-not-≪ (≺-≼ (rw (← drop-to i k w (omega arith)) at h)) (≪-extend (suffix-loses x (k - i) (omega arith) (omega arith)) (⊑-drop (k - i) q) q)

module _ {w : List ℕ} {s e p i : ℕ} (r : Run w s e p) (a : s < i) (b : i ≤ s + p) where
  pub root-entry : EndsUp w e p → AntiLyndon (window w i p) → entry_at w i ≡ p
  root-entry u x = entry-is (omega (arith, r.inside, r.twice, r.positive)) (record {
    after = omega (arith, r.positive);
    inside = omega (arith, r.inside, r.twice);
    stops = inr (suffix-before r u i (omega arith) (omega (arith, r.twice)));
    between = window-first w i p (omega (arith, r.inside, r.twice)) x;
  })

  pub entry-ends-up : entry_at w i ≡ p → EndsUp w e p
  entry-ends-up z l = go (lyndon-table-next w i (omega (arith, r.inside, r.twice, r.positive))).stops l
    where
      go : (i + entry_at w i ≡ length w) ⊎ (drop (i + entry_at w i) w ≺ drop i w) → EndsUp w e p
      go (inl y) = λ h. absurd (omega (arith, r.twice))
      go (inr h) = suffix-ends-up r i (omega arith) (omega (arith, r.twice)) (rw z at h)

module _ {w : List ℕ} {s e p : ℕ} (r : Run w s e p) where
  later-root : (i j : ℕ) → s < i → i < j → j ≤ s + p → entry_at w i ≡ p → entry_at w j ≡ p → ⊥
  later-root i j a b c x y =
      let h : NextBefore w i (i + p) = rw x at (lyndon-table-next w i (omega (arith, r.inside, r.twice, r.positive))) in
      let k : NextBefore w j (j + p) = rw y at (lyndon-table-next w j (omega (arith, r.inside, r.twice, r.positive))) in
      let before : drop (i + p) w ≺ drop i w = suffix-before r (entry-ends-up r a (omega arith) x) i (omega arith) (omega (arith, r.twice)) in
      let upto : drop i w ≼ drop j w = not-≺-≼ (drop j w) (drop i w) (h.between j b (omega arith)) in
      let on : drop j w ≼ drop (i + p) w = not-≺-≼ (drop (i + p) w) (drop j w) (k.between (i + p) (omega arith) (omega arith)) in
      ≺-not-≼ before (≼_trans upto on)

  pub one-root : (i j : ℕ) → s < i → i ≤ s + p → s < j → j ≤ s + p → entry_at w i ≡ p → entry_at w j ≡ p → i ≡ j
  one-root i j a b c d x y = go (dec_lt i j) (dec_lt j i)
    where
      go : Dec (i < j) → Dec (j < i) → i ≡ j
      go (yes l) k = absurd (later-root i j a l d x y)
      go (no l) (yes k) = absurd (later-root j i c k b y x)
      go (no l) (no k) = omega arith

-- an entry that is inside what repeats is the smallest period there
pub entry-smallest : (w : List ℕ) (s e i : ℕ) → i < length w → s ≤ i → i + entry_at w i ≤ e → (q : ℕ) → 0 < q → q < entry_at w i → ¬ Repeats w s e q
entry-smallest w s e i l a b q o m h =
    ≪-not-⊑ (suffix-loses (entry-anti-lyndon w i l) q o (rw size m)) (⊑-letters (drop q u) u (rw length-drop (omega arith)) same)
  where
    p : ℕ
    p = entry_at w i

    u : List ℕ
    u = window w i p

    size : length u ≡ p
    size = window-length w i p (entry-inside w i l)

    same : (t : ℕ) → t < length (drop q u) → get_or (drop q u) t 0 ≡ get_or u t 0
    same t c =
        let d : t < p - q = omega (arith, length-drop q u, size) in
        let again : get_or w (i + t) 0 ≡ get_or w (i + (q + t)) 0 = repeats-at h (i + t) (i + (q + t)) (omega arith) (omega arith) (omega arith) in
        get_or-drop q u t 0 ∙ (window-at w i p (q + t) (omega arith) ∙ (sym again ∙ sym (window-at w i p t (omega arith))))
