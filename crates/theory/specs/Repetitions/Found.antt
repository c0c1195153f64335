-- The run that is looked for at a place (found_at), as a program looks for it, and those of the first places (found_below): at most one at each. The period
-- is 1 after the same letter, else the longest Lyndon word of both orders; how far it repeats to the left and to the right decides (Candidate).
use Rattle.std.specs.Prelude.{◌≡◌, refl, ◌⊎◌, List, [], ◌∷◌, ◌++◌, Bool, true, false, ◌&&◌, ◌||◌, ℕ, zero, suc, ◌+◌, ◌-◌, ◌*◌, ◌≤◌, ◌<◌, length, get_or, leb, ltb, eqb}
use Rattle.std.proofs.Common.{inl, inr, arith, length-append}
use Rattle.std.proofs.Math.Decide.{dec_lt}
use Rattle.theory.specs.Orders.Decisions.{Decides, holds, fails, decides_and, decides-map, neither-less, leb-test, eqb-test}
use Rattle.words.specs.Runs.{Triple, repeats_to}
use Rattle.theory.specs.Repetitions.TwoOrders.{longer_entry}

-- ---- to the left

-- how many of the k letters before i, from the last one on, are equal to those p later
unfoldable pub agree_left : List ℕ → ℕ → ℕ → ℕ → ℕ
agree_left w p zero i = 0
agree_left w p (suc k) zero = 0
agree_left w p (suc k) (suc t) = elim (eqb (get_or w t 0) (get_or w (t + p) 0)) [ true ↦ suc (agree_left w p k t) | false ↦ 0 ]

-- the l letters before i are equal to those p later
pub record EqualLeft (w : List ℕ) (p i l : ℕ) : Type 0 where
  pub inside : l ≤ i
  pub equal : (t : ℕ) → i - l ≤ t → t < i → get_or w t 0 ≡ get_or w (t + p) 0

-- and no more of the k letters
pub record AgreesLeft (w : List ℕ) (p k i l : ℕ) : Type 0 where
  pub equals : EqualLeft w p i l
  pub near : l ≤ k
  pub stops : l < i → l < k → ¬ (get_or w (i - l - 1) 0 ≡ get_or w (i - l - 1 + p) 0)

pub equal-left-more : {w : List ℕ} {p i l : ℕ} → EqualLeft w p i l → l < i → get_or w (i - l - 1) 0 ≡ get_or w (i - l - 1 + p) 0 → EqualLeft w p i (l + 1)
equal-left-more {w} {p} {i} {l} g h e = record { inside = omega arith; equal = λ t a b. go t a b (dec_lt t (i - l)) }
  where
    go : (t : ℕ) → i - (l + 1) ≤ t → t < i → Dec (t < i - l) → get_or w t 0 ≡ get_or w (t + p) 0
    go t a b (yes c) = let z : t ≡ i - l - 1 = omega arith in rw z e
    go t a b (no c) = g.equal t (omega arith) b

equal-left-none : (w : List ℕ) (p i : ℕ) → EqualLeft w p i 0
equal-left-none w p i = record { inside = omega arith; equal = λ t a b. absurd (omega arith) }

pub agree-left-is : (w : List ℕ) (p k i : ℕ) → AgreesLeft w p k i (agree_left w p k i)
unfolding agree_left
agree-left-is w p zero i = record { equals = equal-left-none w p i; near = omega arith; stops = λ a b. absurd (omega arith) }
agree-left-is w p (suc k) zero = record { equals = equal-left-none w p 0; near = omega arith; stops = λ a b. absurd (omega arith) }
agree-left-is w p (suc k) (suc t) = go (eqb-test (get_or w t 0) (get_or w (t + p) 0)) (agree-left-is w p k t)
  where
    last : suc t - 0 - 1 ≡ t
    last = omega arith

    go : {b : Bool} → Decides (get_or w t 0 ≡ get_or w (t + p) 0) b → AgreesLeft w p k t (agree_left w p k t)
        → AgreesLeft w p (suc k) (suc t) (elim b [ true ↦ suc (agree_left w p k t) | false ↦ 0 ])
    go (fails n) g = record { equals = equal-left-none w p (suc t); near = omega arith; stops = λ a b. rw last n }
    go (holds e) g = record {
      equals = record { inside = omega (arith, g.equals.inside); equal = λ s a b. near s a b (dec_lt s t) };
      near = omega (arith, g.near);
      stops = λ a b.
          let z : suc t - suc (agree_left w p k t) - 1 ≡ t - agree_left w p k t - 1 = omega arith in
          rw z (g.stops (omega arith) (omega arith));
    }
      where
        near : (s : ℕ) → suc t - suc (agree_left w p k t) ≤ s → s < suc t → Dec (s < t) → get_or w s 0 ≡ get_or w (s + p) 0
        near s a b (yes c) = g.equals.equal s (omega arith) c
        near s a b (no c) = let z : s ≡ t = omega arith in rw z e

pub agree-left-unique : (w : List ℕ) (p k i l : ℕ) → AgreesLeft w p k i l → l ≡ agree_left w p k i
agree-left-unique w p k i l g = go (agree-left-is w p k i)
  where
    not-less : {a b : ℕ} → AgreesLeft w p k i a → AgreesLeft w p k i b → ¬ (a < b)
    not-less {a} {b} x y h =
        x.stops (omega (arith, y.equals.inside)) (omega (arith, y.near)) (y.equals.equal (i - a - 1) (omega arith) (omega (arith, y.equals.inside)))

    go : {m : ℕ} → AgreesLeft w p k i m → l ≡ m
    go x = neither-less (not-less g x) (not-less x g)

-- ---- a place with a period

-- one letter more than the period is looked at: then the run would have been found a period earlier
abbrev pub left_of : List ℕ → ℕ → ℕ → ℕ
left_of w i p = agree_left w p (p + 1) i

-- a run whose word is of the natural order, which the letter before i tells, has to end before the word does
abbrev pub Counts : List ℕ → ℕ → ℕ → Type 0
Counts w i e = (get_or w (i - 1) 0 ≤ get_or w i 0) ⊎ (e < length w)

pub record Candidate (w : List ℕ) (i p : ℕ) : Type 0 where
  pub some : 0 < left_of w i p
  pub near : left_of w i p ≤ p
  pub twice : i + 2 * p ≤ repeats_to w i p + left_of w i p
  pub counts : Counts w i (repeats_to w i p)

abbrev is_candidate : List ℕ → ℕ → ℕ → Bool
is_candidate w i p =
    let l : ℕ = left_of w i p in
    let e : ℕ = repeats_to w i p in
    ltb 0 l && (leb l p && (leb (i + 2 * p) (e + l) && (leb (get_or w (i - 1) 0) (get_or w i 0) || ltb e (length w))))

decides_or : {P Q : Type 0} {a b : Bool} → Decides P a → Decides Q b → Decides (P ⊎ Q) (a || b)
decides_or (holds p) d = holds (inl p)
decides_or (fails p) (holds q) = holds (inr q)
decides_or {P} {Q} (fails p) (fails q) = fails none
  where
    none : ¬ (P ⊎ Q)
    none (inl h) = p h
    none (inr h) = q h

pub counts-test : (w : List ℕ) (i e : ℕ) → Decides (Counts w i e) (leb (get_or w (i - 1) 0) (get_or w i 0) || ltb e (length w))
counts-test w i e = decides_or (leb-test (get_or w (i - 1) 0) (get_or w i 0)) (leb-test (suc e) (length w))

candidate-test : (w : List ℕ) (i p : ℕ) → Decides (Candidate w i p) (is_candidate w i p)
candidate-test w i p = decides-map
    (λ h. record { some = h.0; near = h.1.0; twice = h.1.1.0; counts = h.1.1.1 })
    (λ c. (c.some, (c.near, (c.twice, c.counts))))
    (decides_and (leb-test 1 l) (decides_and (leb-test l p) (decides_and (leb-test (i + 2 * p) (e + l)) (counts-test w i e))))
  where
    l : ℕ
    l = left_of w i p

    e : ℕ
    e = repeats_to w i p

abbrev pub candidate_run : List ℕ → ℕ → ℕ → Triple
candidate_run w i p = (i - left_of w i p, repeats_to w i p, p)

unfoldable pub found_with : List ℕ → ℕ → ℕ → List Triple
found_with w i p = elim (is_candidate w i p) [ true ↦ candidate_run w i p ∷ [] | false ↦ [] ]

pub data FoundWith (w : List ℕ) (i p : ℕ) : List Triple → Type 0 where
  one : Candidate w i p → FoundWith w i p (candidate_run w i p ∷ [])
  none : ¬ Candidate w i p → FoundWith w i p []

pub found-with : (w : List ℕ) (i p : ℕ) → FoundWith w i p (found_with w i p)
unfolding found_with
found-with w i p = go (candidate-test w i p)
  where
    go : {b : Bool} → Decides (Candidate w i p) b → FoundWith w i p (elim b [ true ↦ candidate_run w i p ∷ [] | false ↦ [] ])
    go (holds c) = one c
    go (fails n) = none n

pub found-one : (w : List ℕ) (i p : ℕ) → Candidate w i p → found_with w i p ≡ candidate_run w i p ∷ []
found-one w i p c = go (found-with w i p)
  where
    go : {rs : List Triple} → FoundWith w i p rs → rs ≡ candidate_run w i p ∷ []
    go (one d) = refl
    go (none n) = absurd (n c)

pub found_none : (w : List ℕ) (i p : ℕ) → ¬ Candidate w i p → found_with w i p ≡ []
found_none w i p n = go (found-with w i p)
  where
    go : {rs : List Triple} → FoundWith w i p rs → rs ≡ []
    go (one c) = absurd (n c)
    go (none m) = refl

-- ---- a place

unfoldable pub found_period : ℕ → List ℕ → ℕ → ℕ
found_period m w i = elim (eqb (get_or w (i - 1) 0) (get_or w i 0)) [ true ↦ 1 | false ↦ longer_entry m w i ]

pub period-same : (m : ℕ) (w : List ℕ) (i : ℕ) → get_or w (i - 1) 0 ≡ get_or w i 0 → found_period m w i ≡ 1
unfolding found_period
period-same m w i e = go (eqb-test (get_or w (i - 1) 0) (get_or w i 0))
  where
    go : {b : Bool} → Decides (get_or w (i - 1) 0 ≡ get_or w i 0) b → ◌≡◌ {A = ℕ} (elim b [ true ↦ 1 | false ↦ longer_entry m w i ]) 1
    go (holds h) = refl
    go (fails n) = absurd (n e)

pub period-other : (m : ℕ) (w : List ℕ) (i : ℕ) → ¬ (get_or w (i - 1) 0 ≡ get_or w i 0) → found_period m w i ≡ longer_entry m w i
unfolding found_period
period-other m w i d = go (eqb-test (get_or w (i - 1) 0) (get_or w i 0))
  where
    go : {b : Bool} → Decides (get_or w (i - 1) 0 ≡ get_or w i 0) b → ◌≡◌ {A = ℕ} (elim b [ true ↦ 1 | false ↦ longer_entry m w i ]) (longer_entry m w i)
    go (holds h) = absurd (d h)
    go (fails n) = refl

abbrev pub found_at : ℕ → List ℕ → ℕ → List Triple
found_at m w i = found_with w i (found_period m w i)

-- at the places 1, .., k
unfoldable pub found_up_to : ℕ → List ℕ → ℕ → List Triple
found_up_to m w zero = []
found_up_to m w (suc k) = found_up_to m w k ++ found_at m w (suc k)

found-at-few : (w : List ℕ) (i p : ℕ) → length (found_with w i p) ≤ 1
found-at-few w i p = go (found-with w i p)
  where
    go : {rs : List Triple} → FoundWith w i p rs → length rs ≤ 1
    go (one c) = omega arith
    go (none n) = omega arith

pub found-few : (m : ℕ) (w : List ℕ) (k : ℕ) → length (found_up_to m w k) ≤ k
unfolding found_up_to
found-few m w zero = omega arith
found-few m w (suc k) = rw length-append (omega (arith, found-few m w k, found-at-few w (suc k) (found_period m w (suc k))))

-- ---- one place more

pub found-next : (m : ℕ) (w : List ℕ) (i : ℕ) → 0 < i → found_up_to m w i ≡ found_up_to m w (i - 1) ++ found_at m w i
unfolding found_up_to
found-next m w zero l = absurd (omega arith)
found-next m w (suc k) l = let z : suc k - 1 ≡ k = omega arith in rw z

pub found-more : (m : ℕ) (w : List ℕ) (j k : ℕ) → j ≤ k → length (found_up_to m w j) ≤ length (found_up_to m w k)
unfolding found_up_to
found-more m w j zero l = let z : j ≡ 0 = omega arith in rw z (omega arith)
found-more m w j (suc k) l = go (dec_lt j (suc k)) (λ x. found-more m w j k x)
  where
    go : Dec (j < suc k) → (j ≤ k → length (found_up_to m w j) ≤ length (found_up_to m w k))
        → length (found_up_to m w j) ≤ length (found_up_to m w k ++ found_at m w (suc k))
    go (yes x) next = rw length-append (omega (arith, next (omega arith)))
    go (no x) next = let z : j ≡ suc k = omega arith in rw z (omega arith)
