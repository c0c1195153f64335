-- Borders of a scanned prefix, the table of longest borders, and the walk along it to the shortest r of the test.
--   BorderOf w n k       the first k letters of w end its first n letters too
--   Table w t n          entry k of t is the longest border of the first k + 1 letters, for k below n
--   Walk w n k           a border whose next letter is below the letter at n; walk-on and walk-stops go along the table
--   ShortestBorder w n r     such a border, and no shorter one is: r is border_length w (shortest-border-length)
-- Along the borders of an inverse Lyndon word, from the longest to the shortest, the next letters do not fall, so the walk may stop early.
use Rattle.std.specs.Prelude.{◌≡◌, List, [], ◌∷◌, ◌++◌, ℕ, suc, ◌+◌, ◌-◌, ◌≤◌, ◌<◌, length, take, drop, get_or, set}
use Rattle.std.proofs.Common.{arith, length-drop, take-suc, length-take-le, get_or-take, drop-drop, get_or-set_same, get_or-set_other}
use Rattle.std.proofs.Math.Decide.{dec_lt}
use Rattle.std.proofs.lemmas.List.{drop-append-le}
use Rattle.words.specs.Words.{◌≪◌, here, ◌⊑◌, InverseLyndon}
use Rattle.words.specs.Factorizations.{failing_length, border_length}
use Rattle.theory.specs.Orders.Decisions.{neither-less}
use Rattle.theory.specs.Orders.PrefixLaws.{⊑_refl, ⊑-both, ⊑_trans, take-⊑-take, take-⊑-next}
use Rattle.theory.specs.Orders.MismatchLaws.{≪-append, ≪-extend, ≪-under, take-≪-larger}
use Rattle.theory.specs.Orders.LexLaws.{◌≤ₗ◌, lost, pre, ≤ₗ-not-≪}
use Rattle.theory.specs.Lyndon.WordTests.{suffix-below}
use Rattle.theory.specs.Icfl.Failing.{Failing, failing-unique, Shortest, shortest-is}
use Rattle.theory.specs.Icfl.BorderLength.{border-least}
use Rattle.theory.specs.Scan.Period.{Period, border-letter}
use Rattle.theory.specs.Scan.Scanned.{Scanned, border-front}

pub record BorderOf (w : List ℕ) (n k : ℕ) : Type 0 where
  pub shorter : k < n
  pub repeats : drop (n - k) (take n w) ⊑ take n w

pub scanned-border : {w : List ℕ} {n b : ℕ} → Scanned w n b → BorderOf w n b
scanned-border s = record { shorter = s.shorter; repeats = s.period.repeats }

-- no border is longer than the one that the period leaves
longest-border : {w : List ℕ} {k b j : ℕ} → Period (take k w) (k - b) → BorderOf w k j → j ≤ b
longest-border {w} {k} {b} {j} p c =
    let n : ¬ (b < j) = λ h. p.least (k - j) (omega (arith, c.shorter)) (omega (arith, c.shorter)) c.repeats in
    omega arith

module _ (w : List ℕ) (n : ℕ) (l : n ≤ length w) where
  size : length (take n w) ≡ n
  size = length-take-le n w l

  border-word : {k : ℕ} → BorderOf w n k → drop (n - k) (take n w) ≡ take k w
  border-word {k} b = border-front w n k l (omega (arith, b.shorter)) b.repeats

  border-drop : {k : ℕ} (j : ℕ) → BorderOf w n k → j ≤ k → drop (n - j) (take n w) ≡ drop (k - j) (take k w)
  border-drop {k} j b h =
      let e : n - k + (k - j) ≡ n - j = omega (arith, b.shorter) in
      rw (← e, ← drop-drop (k - j) (n - k) (take n w), border-word b)

  -- a border of a border is a border, and a border shorter than another is a border of it
  border-of-border : {k j : ℕ} → BorderOf w n k → BorderOf w k j → BorderOf w n j
  border-of-border {k} {j} b c = record {
    shorter = omega (arith, b.shorter, c.shorter);
    repeats = rw (border-drop {k = k} j b (omega (arith, c.shorter))) (⊑_trans c.repeats (take-⊑-take k n w (omega (arith, b.shorter))));
  }

  border-within : {k j : ℕ} → BorderOf w n k → BorderOf w n j → j < k → BorderOf w k j
  border-within {k} {j} b c h =
      let s : length (take k w) ≡ k = length-take-le k w (omega (arith, b.shorter)) in
      record {
        shorter = h;
        repeats = ⊑-both (rw (border-drop {k = k} j b (omega arith)) at c.repeats)
            (take-⊑-take k n w (omega (arith, b.shorter))) (rw (length-drop, s) (omega arith));
      }

  -- the shorter of two borders is followed by a letter no smaller
  next-letter : {k j : ℕ} → InverseLyndon (take n w) → BorderOf w n k → BorderOf w n j → j ≤ k → get_or w k 0 ≤ get_or w j 0
  next-letter {k} {j} g b c h =
      let at-k : length (drop (n - k) (take n w)) ≡ k = rw (length-drop, size) (omega (arith, b.shorter)) in
      let at_j : length (drop (n - j) (take n w)) ≡ j = rw (length-drop, size) (omega (arith, c.shorter)) in
      rw (at-k, at_j, get_or-take n w k 0 b.shorter, get_or-take n w j 0 c.shorter) at
      (border-letter g (n - k) (n - j) (omega (arith, b.shorter)) (omega (arith, b.shorter)) (rw size (omega arith)) b.repeats c.repeats)

-- ---- the letter at n against the letter after a border

module _ (w : List ℕ) (n : ℕ) (l : n < length w) where
  with-letter : (k : ℕ) → k ≤ n → drop (n - k) (take (suc n) w) ≡ drop (n - k) (take n w) ++ get_or w n 0 ∷ []
  with-letter k h = rw (take-suc w n 0 l, drop-append-le (n - k) (take n w) (get_or w n 0 ∷ []) (rw (size w n (omega arith)) (omega arith)))

  above : {k : ℕ} → BorderOf w n k → get_or w k 0 < get_or w n 0 → take (suc n) w ≪ drop (n - k) (take (suc n) w)
  above {k} b h =
      rw (with-letter k (omega (arith, b.shorter)), border-word w n (omega arith) b) (take-≪-larger k (suc n) w (omega (arith, b.shorter)) l h)

  not-above : {k : ℕ} → BorderOf w n k → get_or w n 0 ≤ get_or w k 0 → drop (n - k) (take (suc n) w) ≤ₗ take (suc n) w
  not-above {k} b h = rw (with-letter k (omega (arith, b.shorter)), border-word w n (omega arith) b) (go (dec_lt (get_or w n 0) (get_or w k 0)))
    where
      next : (take k w ++ get_or w k 0 ∷ []) ⊑ take (suc n) w
      next = take-⊑-next k (suc n) w (omega (arith, b.shorter)) l

      go : Dec (get_or w n 0 < get_or w k 0) → (take k w ++ get_or w n 0 ∷ []) ≤ₗ take (suc n) w
      go (yes x) = lost (≪-extend (≪-under (take k w) (here x)) (⊑_refl _) next)
      go (no x) = pre (rw (let e : get_or w n 0 ≡ get_or w k 0 = omega arith in e) next)

-- ---- the shortest r

pub record ShortestBorder (w : List ℕ) (n r : ℕ) : Type 0 where
  pub border : BorderOf w n r
  pub below : get_or w r 0 < get_or w n 0
  pub least : (k : ℕ) → k < r → BorderOf w n k → get_or w n 0 ≤ get_or w k 0

module _ (w : List ℕ) (n r : ℕ) (x : Failing w (suc n)) (y : ShortestBorder w n r) where
  sizes : (length (take (suc n) w) ≡ suc n) × (length (take n w) ≡ n)
  sizes = (length-take-le (suc n) w x.inside, length-take-le n w (omega (arith, x.inside)))

  -- a suffix that begins past the border's place is not above
  shorter-not-above : (k : ℕ) → n - r < k → k ≤ n → drop k (take (suc n) w) ≤ₗ take (suc n) w
  shorter-not-above k a b = go (suffix-below (x.before n (omega (arith, y.border.shorter)) (omega arith)) k)
    where
      e : n - (n - k) ≡ k
      e = omega arith

      go : drop k (take n w) ≤ₗ take n w → drop k (take (suc n) w) ≤ₗ take (suc n) w
      go (lost h) = rw (take-suc w n 0 x.inside, drop-append-le k (take n w) (get_or w n 0 ∷ []) (rw sizes.1 b)) (lost (≪-append _ _ h))
      go (pre h) =
          let c : BorderOf w n (n - k) = record { shorter = omega (arith, y.border.shorter); repeats = rw e h } in
          rw e at (not-above w n x.inside c (y.least (n - k) (omega (arith, y.border.shorter)) c))

  same-as : {q : ℕ} → Shortest (take (suc n) w) q → q ≡ r
  same-as {q} z =
      let e : length (take (suc n) w) - suc q ≡ n - q = omega (arith, sizes.0) in
      neither-less
      (λ a. ≤ₗ-not-≪ (shorter-not-above (n - q) (omega (arith, y.border.shorter)) (omega arith)) (rw e at z.above))
      (λ a. ≤ₗ-not-≪ (z.shorter (n - r) (omega (arith, sizes.0, z.inside))) (above w n x.inside y.border y.below))

  pub shortest-border-length : border_length w ≡ r
  shortest-border-length =
      let l : failing_length w ≡ suc n = failing-unique w (suc n) x in
      let found = shortest-is (take (suc n) w) (rw sizes.0 (omega arith)) x.fails in
      let q : found.0 ≡ r = same-as found.1 in
      border-least w r (rw l x) (rw l (rw q at found.1))

-- ---- the table, and the walk along it

abbrev pub Table : List ℕ → List ℕ → ℕ → Type 0
Table w t n = (k : ℕ) → k < n → Scanned w (suc k) (get_or t k 0)

pub table-set : (w t : List ℕ) (n b : ℕ) → Table w t n → n < length t → Scanned w (suc n) b → Table w (set t n b) (suc n)
table-set w t n b h l s k m = go (dec_lt k n)
  where
    go : Dec (k < n) → Scanned w (suc k) (get_or (set t n b) k 0)
    go (yes a) = rw (get_or-set_other t n k b 0 (λ e. omega arith)) (h k a)
    go (no a) = rw (let e : k ≡ n = omega arith in e, get_or-set_same t n b 0 l) s

pub record Walk (w : List ℕ) (n k : ℕ) : Type 0 where
  pub border : BorderOf w n k
  pub below : get_or w k 0 < get_or w n 0

pub walk-on : {w : List ℕ} {n k b : ℕ} → n ≤ length w → Walk w n k → Scanned w k b → get_or w b 0 < get_or w n 0 → Walk w n b
walk-on {w} {n} l x s h = record { border = border-of-border w n l x.border (scanned-border s); below = h }

pub walk-stops : {w : List ℕ} {n k b : ℕ} → n ≤ length w → InverseLyndon (take n w) → Walk w n k → Scanned w k b → get_or w n 0 ≤ get_or w b 0
    → ShortestBorder w n k
walk-stops {w} {n} {k} {b} l g x s h = record {
  border = x.border;
  below = x.below;
  least = λ j a c.
      let longest : BorderOf w n b = border-of-border w n l x.border (scanned-border s) in
      omega (arith, h, next-letter w n l g longest c (longest-border s.period (border-within w n l x.border c a)));
}

pub walk_ends : {w : List ℕ} {n : ℕ} → Walk w n 0 → ShortestBorder w n 0
walk_ends x = record { border = x.border; below = x.below; least = λ j a c. absurd (omega arith) }
