-- The Lyndon tables of a word in both orders of the letters. The other order is that of the letters taken from a bound m (reversed). THEOREM one-order: at
-- each place one of the two entries is 1. The longer entry tells its order by its last letter (longest-falls, longest-rises): so one list of the longer
-- ones serves for both tables.
use Rattle.std.specs.Prelude.{◌≡◌, ◌⊎◌, List, ◌∷◌, ℕ, zero, suc, ◌+◌, ◌-◌, ◌≤◌, ◌<◌, length, drop, get_or}
use Rattle.std.proofs.Common.{ap, sym, subst, ◌∙◌, inl, inr, arith, length-drop, drop_of_length-le, drop-cons, get_or-drop}
use Rattle.std.proofs.Math.Decide.{dec_lt}
use Rattle.words.specs.Words.{◌≪◌, here, there, done, proper, ◌≺◌, prefix, mismatch}
use Rattle.theory.specs.Orders.MismatchLaws.{≪-left-nonempty}
use Rattle.theory.specs.Orders.InverseLaws.{≺-cons}
use Rattle.theory.specs.Lyndon.WordTests.{suffix-loses}
use Rattle.theory.proofs.Table.LyndonTableNext.{lyndon-table-next}
use Rattle.theory.specs.Repetitions.RunSuffixes.{entry_at, window, window-length, window-at, same-letter, entry-anti-lyndon}
use Rattle.theory.proofs.Repetitions.RunSuffixes.{entry-inside, entry-positive}
use Rattle.theory.specs.Repetitions.TwoOrders.{Falls, UpTo, goes_on, longer_entry, reversed, reversed-at, reversed-length, smaller}

suffix-cons : (v : List ℕ) (i : ℕ) → i < length v → drop i v ≡ get_or v i 0 ∷ drop (i + 1) v
suffix-cons v i l = drop-cons v i 0 l ∙ ap (λ (k : ℕ). get_or v i 0 ∷ drop k v) (let z : suc i ≡ i + 1 = omega arith in z)

-- the suffix at i + 1 comes before that at i
next-larger : (v : List ℕ) (i : ℕ) → i + 1 < length v → get_or v i 0 < get_or v (i + 1) 0 → drop (i + 1) v ≺ drop i v
next-larger v i l h = rw (suffix-cons v i (omega arith), suffix-cons v (i + 1) l) (mismatch (here h))

next-same : (v : List ℕ) (i : ℕ) → i + 1 < length v → get_or v (i + 1) 0 ≡ get_or v i 0 → drop (i + 1 + 1) v ≺ drop (i + 1) v → drop (i + 1) v ≺ drop i v
next-same v i l e h =
    let x : (get_or v (i + 1) 0 ∷ drop (i + 1 + 1) v) ≺ (get_or v i 0 ∷ drop (i + 1) v) = rw e (≺-cons (get_or v i 0) h) in
    rw (suffix-cons v i (omega arith)) (subst (λ (x : List ℕ). x ≺ (get_or v i 0 ∷ drop (i + 1) v)) (sym (suffix-cons v (i + 1) l)) x)

entry-one-stops : (v : List ℕ) (i : ℕ) → i < length v → entry_at v i ≡ 1 → drop (i + 1) v ≺ drop i v
entry-one-stops v i l e = go (lyndon-table-next v i l).stops
  where
    go : (i + entry_at v i ≡ length v) ⊎ (drop (i + entry_at v i) v ≺ drop i v) → drop (i + 1) v ≺ drop i v
    go (inl z) = rw (drop_of_length-le v {i = i + 1} (omega arith)) (prefix (proper done (rw length-drop (omega arith))))
    go (inr h) = rw e at h

pub entry-falls : (v : List ℕ) (i : ℕ) → i < length v → 1 < entry_at v i → (i + 1 < length v) × Falls v i
entry-falls v i l h = (inside, go (dec_lt (get_or v i 0) (get_or v (i + 1) 0)) (dec_lt (get_or v (i + 1) 0) (get_or v i 0)))
  where
    inside : i + 1 < length v
    inside = omega (arith, entry-inside v i l)

    not-before : ¬ (drop (i + 1) v ≺ drop i v)
    not-before = (lyndon-table-next v i l).between (i + 1) (omega arith) (omega arith)

    near : get_or v (i + 1) 0 ≡ get_or v i 0 → Dec (1 < entry_at v (i + 1)) → Falls v i
    near e (yes k) = goes_on e k
    near e (no k) = absurd (not-before (next-same v i inside e (entry-one-stops v (i + 1) inside (omega (arith, entry-positive v (i + 1) inside)))))

    go : Dec (get_or v i 0 < get_or v (i + 1) 0) → Dec (get_or v (i + 1) 0 < get_or v i 0) → Falls v i
    go (yes a) d = absurd (not-before (next-larger v i inside a))
    go (no a) (yes b) = smaller b
    go (no a) (no b) = near (omega arith) (dec_lt 1 (entry_at v (i + 1)))

-- otherwise it is 1
pub entry-one : (v : List ℕ) (i : ℕ) → i < length v → (i + 1 < length v → ¬ Falls v i) → entry_at v i ≡ 1
entry-one v i l n = go (dec_lt 1 (entry_at v i))
  where
    go : Dec (1 < entry_at v i) → entry_at v i ≡ 1
    go (yes h) = let q = entry-falls v i l h in absurd (n q.0 q.1)
    go (no h) = omega (arith, entry-positive v i l)

-- a longer word ends with a smaller letter than it begins with
≪-single : {x y : List ℕ} → x ≪ y → length x ≤ 1 → get_or x 0 0 < get_or y 0 0
≪-single (here h) l = h
≪-single (there h) l = absurd (omega (arith, ≪-left-nonempty h))

pub entry-last : (v : List ℕ) (i : ℕ) → i < length v → 1 < entry_at v i → get_or v (i + entry_at v i - 1) 0 < get_or v i 0
entry-last v i l h =
    let loses : drop (p - 1) u ≪ u = suffix-loses (entry-anti-lyndon v i l) (p - 1) (omega arith) (rw size (omega arith)) in
    let less : get_or (drop (p - 1) u) 0 0 < get_or u 0 0 = ≪-single loses (rw length-drop (omega (arith, size))) in
    let last : get_or (drop (p - 1) u) 0 0 ≡ get_or v (i + p - 1) 0
    = get_or-drop (p - 1) u 0 0 ∙ (window-at v i p (p - 1 + 0) (omega arith) ∙ same-letter v (let z : i + (p - 1 + 0) ≡ i + p - 1 = omega arith in z)) in
    let first : get_or u 0 0 ≡ get_or v i 0 = window-at v i p 0 (omega arith) ∙ same-letter v (let z : i + 0 ≡ i = omega arith in z) in
    omega arith
  where
    p : ℕ
    p = entry_at v i

    u : List ℕ
    u = window v i p

    size : length u ≡ p
    size = window-length v i p (entry-inside v i l)

module _ (m : ℕ) (w : List ℕ) (b : UpTo m w) where
  inside-reversed : (i : ℕ) → i < length w → i < length (reversed m w)
  inside-reversed i l = rw (reversed-length m w) l

  -- both orders fall at i: they do so at i + 1
  both-fall : (i : ℕ) → i + 1 < length w → Falls w i → Falls (reversed m w) i → (1 < entry_at w (i + 1)) × (1 < entry_at (reversed m w) (i + 1))
  both-fall i l x y = go x y
    where
      now : get_or (reversed m w) i 0 ≡ m - get_or w i 0
      now = reversed-at m w i (omega arith)

      next : get_or (reversed m w) (i + 1) 0 ≡ m - get_or w (i + 1) 0
      next = reversed-at m w (i + 1) l

      go : Falls w i → Falls (reversed m w) i → (1 < entry_at w (i + 1)) × (1 < entry_at (reversed m w) (i + 1))
      go (smaller h) (smaller k) = absurd (omega (arith, now, next, b i, b (i + 1)))
      go (smaller h) (goes_on e k) = absurd (omega (arith, now, next, b i, b (i + 1)))
      go (goes_on e h) (smaller k) = absurd (omega (arith, now, next))
      go (goes_on e h) (goes_on d k) = (h, k)

  not-both : (k i : ℕ) → length w ≤ i + k → i < length w → 1 < entry_at w i → 1 < entry_at (reversed m w) i → ⊥
  not-both zero i n l x y = omega arith
  not-both (suc k) i n l x y =
      let p = entry-falls w i l x in
      let q = entry-falls (reversed m w) i (inside-reversed i l) y in
      let z = both-fall i p.0 p.1 q.1 in
      not-both k (i + 1) (omega arith) p.0 z.0 z.1

  pub one-order : (i : ℕ) → i < length w → (entry_at w i ≡ 1) ⊎ (entry_at (reversed m w) i ≡ 1)
  one-order i l = go (dec_lt 1 (entry_at w i)) (dec_lt 1 (entry_at (reversed m w) i))
    where
      go : Dec (1 < entry_at w i) → Dec (1 < entry_at (reversed m w) i) → (entry_at w i ≡ 1) ⊎ (entry_at (reversed m w) i ≡ 1)
      go (no h) d = inl (omega (arith, entry-positive w i l))
      go (yes h) (no k) = inr (omega (arith, entry-positive (reversed m w) i (inside-reversed i l)))
      go (yes h) (yes k) = absurd (not-both (length w) i (omega arith) l h k)

  reversed-last : (i : ℕ) → i < length w → 1 < entry_at (reversed m w) i → get_or w i 0 < get_or w (i + entry_at (reversed m w) i - 1) 0
  reversed-last i l h =
      let k = inside-reversed i l in
      let n = entry-inside (reversed m w) i k in
      let last = reversed-at m w (i + entry_at (reversed m w) i - 1) (omega (arith, reversed-length m w)) in
      omega (arith, entry-last (reversed m w) i k h, reversed-at m w i l, last)

  pub longest-inside : (i : ℕ) → i < length w → (0 < longer_entry m w i) × (i + longer_entry m w i ≤ length w)
  longest-inside i l =
      let k = inside-reversed i l in
      (omega (arith, entry-positive w i l), omega (arith, entry-inside w i l, entry-inside (reversed m w) i k, reversed-length m w))

  -- which order the longer entry is of
  pub data LongestIs (i : ℕ) : Type 0 where
    falls : longer_entry m w i ≡ entry_at w i → entry_at (reversed m w) i ≡ 1 → get_or w (i + longer_entry m w i - 1) 0 < get_or w i 0 → LongestIs i
    rises : longer_entry m w i ≡ entry_at (reversed m w) i → entry_at w i ≡ 1 → get_or w i 0 < get_or w (i + longer_entry m w i - 1) 0 → LongestIs i
    letter : longer_entry m w i ≡ 1 → entry_at w i ≡ 1 → entry_at (reversed m w) i ≡ 1 → LongestIs i

  pub longest-is-of : (i : ℕ) → i < length w → LongestIs i
  longest-is-of i l = go (one-order i l) (dec_lt 1 (entry_at w i)) (dec_lt 1 (entry_at (reversed m w) i))
    where
      k : i < length (reversed m w)
      k = inside-reversed i l

      go : (entry_at w i ≡ 1) ⊎ (entry_at (reversed m w) i ≡ 1) → Dec (1 < entry_at w i) → Dec (1 < entry_at (reversed m w) i) → LongestIs i
      go (inl e) (yes h) d = absurd (omega arith)
      go (inl e) (no h) (yes d) =
          let z : longer_entry m w i ≡ entry_at (reversed m w) i = omega arith in
          rises z e (rw z (reversed-last i l d))
      go (inl e) (no h) (no d) =
          let o : entry_at (reversed m w) i ≡ 1 = omega (arith, entry-positive (reversed m w) i k) in
          letter (omega arith) e o
      go (inr e) (yes h) d =
          let z : longer_entry m w i ≡ entry_at w i = omega arith in
          falls z e (rw z (entry-last w i l h))
      go (inr e) (no h) d =
          let o : entry_at w i ≡ 1 = omega (arith, entry-positive w i l) in
          letter (omega arith) o e

  -- its last letter tells
  pub longest-falls : (i : ℕ) → i < length w → (get_or w (i + longer_entry m w i - 1) 0 < get_or w i 0 → entry_at w i ≡ longer_entry m w i)
      × (get_or w i 0 ≤ get_or w (i + longer_entry m w i - 1) 0 → entry_at w i ≡ 1)
  longest-falls i l = go (longest-is-of i l)
    where
      go : LongestIs i → (get_or w (i + longer_entry m w i - 1) 0 < get_or w i 0 → entry_at w i ≡ longer_entry m w i)
          × (get_or w i 0 ≤ get_or w (i + longer_entry m w i - 1) 0 → entry_at w i ≡ 1)
      go (falls e o h) = ((λ k. sym e), (λ k. absurd (omega arith)))
      go (rises e o h) = ((λ k. absurd (omega arith)), (λ k. o))
      go (letter e o p) = ((λ k. o ∙ sym e), (λ k. o))

  pub longest-rises : (i : ℕ) → i < length w → (get_or w i 0 < get_or w (i + longer_entry m w i - 1) 0 → entry_at (reversed m w) i ≡ longer_entry m w i)
      × (get_or w (i + longer_entry m w i - 1) 0 ≤ get_or w i 0 → entry_at (reversed m w) i ≡ 1)
  longest-rises i l = go (longest-is-of i l)
    where
      go : LongestIs i → (get_or w i 0 < get_or w (i + longer_entry m w i - 1) 0 → entry_at (reversed m w) i ≡ longer_entry m w i)
          × (get_or w (i + longer_entry m w i - 1) 0 ≤ get_or w i 0 → entry_at (reversed m w) i ≡ 1)
      go (falls e o h) = ((λ k. absurd (omega arith)), (λ k. o))
      go (rises e o h) = ((λ k. sym e), (λ k. absurd (omega arith)))
      go (letter e o p) = ((λ k. p ∙ sym e), (λ k. p))
