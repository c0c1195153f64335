-- How far two starts of a range agree (request 104). The number is what the request describes (common-within-is), and no other one is (shared-unique); it
-- does not depend on which start is named first (common-within-sym), and for equal starts it is the whole remainder (common-within-same). Over a range it is
-- the smaller of the number to the word's end and what the range leaves after the later start (common-within-range).
use Rattle.std.specs.Prelude.{◌≡◌, ◌⊎◌, List, ℕ, ◌+◌, ◌-◌, ◌≤◌, ◌<◌, min, max, length, drop, get_or}
use Rattle.std.proofs.Common.{ap, sym, ◌∙◌, inl, inr, arith, length-take, length-drop, get_or-take, get_or-drop}
use Rattle.std.proofs.Math.Decide.{dec_lt, ℕ_discrete}
use Rattle.buffers.proofs.PartLaws.{part}
use Rattle.words.specs.Words.{common_length_of, remainder, common_within}
use Rattle.theory.specs.Statements.{Shared, SharedMost}
use Rattle.theory.specs.Orders.CommonLength.{Agree, common-agree, common-sym}
use Rattle.theory.specs.Orders.WordSigns.{part-remainder}

-- ---- the numbers that the statement allows

-- the later remainder ends there, or the next two letters differ
abbrev Parted : (w : List ℕ) (end start other n : ℕ) → Type 0
Parted w end start other n = (max start other + n ≡ end) ⊎ (¬ (get_or w (start + n) 0 ≡ get_or w (other + n) 0))

module _ {w : List ℕ} {end start other : ℕ} where
  -- where the two part, no larger number is shared
  shared-most : {n : ℕ} → Shared w end start other n → Parted w end start other n → SharedMost w end start other n
  shared-most {n} s p = record { shared = s; parts = p; largest = λ m k. go m k p (dec_lt n m) }
    where
      go : (m : ℕ) → Shared w end start other m → Parted w end start other n → Dec (n < m) → m ≤ n
      go m k p (no l) = omega arith
      go m k (inl e) (yes l) = absurd (omega (arith, k.inside))
      go m k (inr d) (yes l) = absurd (d (k.equal n l))

  pub shared-unique : {n m : ℕ} → SharedMost w end start other n → SharedMost w end start other m → n ≡ m
  shared-unique {n} {m} s k = omega (arith, s.largest m k.shared, k.largest n s.shared)

-- ---- the number

module _ (w : List ℕ) (first end start : ℕ) (h : end ≤ length w) (a : first ≤ start) where
  remainder-length : length (remainder w first end start) ≡ end - start
  remainder-length = rw (← part-remainder w first end start a, length-take, length-drop) (omega arith)

  remainder-at : (t : ℕ) → t < end - start → get_or (remainder w first end start) t 0 ≡ get_or w (start + t) 0
  remainder-at t l = rw (← part-remainder w first end start a) (get_or-take (end - start) (drop start w) t 0 l ∙ get_or-drop start w t 0)

-- of the two parts of the word from the starts to the end
pub common-parts : (w : List ℕ) (first end start other : ℕ) → first ≤ start → first ≤ other
    → common_length_of (part start end w) (part other end w) ≡ common_within w first end start other
common-parts w first end start other a c = rw (part-remainder w first end start a, part-remainder w first end other c)

-- never above the word's length
pub common-within-short : (w : List ℕ) (first end start other : ℕ) → common_within w first end start other ≤ length w
common-within-short w first end start other =
    let l : length (remainder w first end start) ≤ length w = simp (length-drop, length-take) (omega arith) in
    omega (arith, (common-agree (remainder w first end start) (remainder w first end other)).matched.left)

pub common-within-sym : (w : List ℕ) (first end start other : ℕ) → common_within w first end start other ≡ common_within w first end other start
common-within-sym w first end start other = common-sym (remainder w first end start) (remainder w first end other)

module _ (w : List ℕ) (first end start other : ℕ) (h : end ≤ length w) (a : first ≤ start) (b : start < end) (c : first ≤ other) (d : other < end) where
  pub common-within-is : SharedMost w end start other (common_within w first end start other)
  common-within-is = go (common-agree (remainder w first end start) (remainder w first end other))
    where
      m : length (remainder w first end start) ≡ end - start
      m = remainder-length w first end start h a

      k : length (remainder w first end other) ≡ end - other
      k = remainder-length w first end other h c

      go : {n : ℕ} → Agree (remainder w first end start) (remainder w first end other) n → SharedMost w end start other n
      go {n} g = shared-most
          (record {
            inside = omega (arith, m, k, g.matched.left, g.matched.right);
            equal = λ t l.
                sym (remainder-at w first end start h a t (omega (arith, m, g.matched.left)))
                ∙ (g.matched.equal t l ∙ remainder-at w first end other h c t (omega (arith, k, g.matched.right)));
          })
          (ended (ℕ_discrete (max start other + n) end))
        where
          ended : Dec (max start other + n ≡ end) → Parted w end start other n
          ended (yes e) = inl e
          ended (no e) =
              let inside : max start other + n < end = omega (arith, m, k, g.matched.left, g.matched.right) in
              inr (λ z. g.differ (omega (arith, m)) (omega (arith, k))
              (remainder-at w first end start h a n (omega arith) ∙ (z ∙ sym (remainder-at w first end other h c n (omega arith)))))

  -- what the request says of equal starts: "that is the whole remainder"
  pub common-within-same : start ≡ other → common_within w first end start other ≡ end - start
  common-within-same e = go common-within-is.parts
    where
      go : {n : ℕ} → Parted w end start other n → n ≡ end - start
      go (inl z) = omega arith
      go {n} (inr z) = absurd (z (ap (λ (i : ℕ). get_or w (i + n) 0) e))

-- a number shared up to the word's end, cut off where the range ends
shared-within : (w : List ℕ) (end start other : ℕ) {n : ℕ} → end ≤ length w → start < end → other < end → SharedMost w (length w) start other n
    → SharedMost w end start other (min n (end - max start other))
shared-within w end start other {n} h b d s = shared-most
    (record { inside = omega arith; equal = λ t l. s.shared.equal t (omega arith) })
    (go s.parts (dec_lt n (end - max start other)))
  where
    cut : ℕ
    cut = min n (end - max start other)

    go : Parted w (length w) start other n → Dec (n < end - max start other) → Parted w end start other cut
    go p (no l) = inl (omega arith)
    go (inl e) (yes l) = absurd (omega arith)
    go (inr z) (yes l) = let same : cut ≡ n = omega arith in inr (rw same z)

pub common-within-range : (w : List ℕ) (first end start other : ℕ) → end ≤ length w → first ≤ start → start < end → first ≤ other → other < end
    → common_within w first end start other ≡ min (common_within w 0 (length w) start other) (end - max start other)
common-within-range w first end start other h a b c d = shared-unique
    (common-within-is w first end start other h a b c d)
    (shared-within w end start other h b d
    (common-within-is w 0 (length w) start other (omega arith) (omega arith) (omega arith) (omega arith) (omega arith)))
