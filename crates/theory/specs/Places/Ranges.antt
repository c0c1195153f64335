-- Ranges of a word, slice first end w: what stands before, in and after one, and the order of two suffixes over a range whose end
-- is a place whose suffix comes first (compatible; source 004, Theorem 2.2 has it for Lyndon factors).
use Rattle.std.specs.Prelude.{◌≡◌, List, ◌++◌, ℕ, ◌+◌, ◌-◌, ◌≤◌, ◌<◌, length, take, drop}
use Rattle.std.proofs.Common.{ap, sym, subst, ◌∙◌, append_assoc, arith, length-drop, take-append-drop, take-take, length-take-le}
use Rattle.std.proofs.Math.Seq.{slice, drop-append-add, take-length, length-slice}
use Rattle.std.proofs.lemmas.List.{drop-append-le}
use Rattle.words.specs.Words.{remainder, sign}
use Rattle.theory.specs.Orders.InverseLaws.{≺-≼, ≼-≺}
use Rattle.theory.specs.Places.FirstSuffixes.{FirstSuffix, Leads, first-leads, range-before, before-range}
use Rattle.theory.specs.Orders.SignLaws.{sign-same-order}

module _ (w : List ℕ) (first end : ℕ) (l : first ≤ end) (h : end ≤ length w) where
  range_split : w ≡ take first w ++ (slice first end w ++ drop end w)
  range_split =
      let e : take end w ≡ take first w ++ slice first end w
      = sym (take-append-drop first (take end w)) ∙ ap (λ (t : List ℕ). t ++ slice first end w) (take-take first end w l) in
      sym (take-append-drop end w) ∙ ap (λ (t : List ℕ). t ++ drop end w) e ∙ append_assoc (take first w) (slice first end w) (drop end w)

  range-leads : FirstSuffix end w → Leads (slice first end w) (drop end w)
  range-leads f =
      let n : length (take first w) + length (slice first end w) ≡ end = rw (length-take-le first w (omega arith), length-slice first end w h) (omega arith) in
      first-leads (take first w) (slice first end w) (drop end w)
      (rw n (subst (λ (v : List ℕ). FirstSuffix end v) range_split f))

  -- the suffix of w at a start of the range
  pub range-suffix : (start : ℕ) → first ≤ start → start ≤ end → drop start w ≡ remainder w first end start ++ drop end w
  range-suffix start a b =
      let n : length (take first w) ≡ first = length-take-le first w (omega arith) in
      let m : start ≡ length (take first w) + (start - first) = omega (arith, n) in
      ap (λ (i : ℕ). drop i w) m ∙ ap (drop (length (take first w) + (start - first))) range_split
      ∙ drop-append-add (take first w) _ (start - first)
      ∙ drop-append-le (start - first) (slice first end w) (drop end w) (rw (length-slice first end w h) (omega arith))

whole-remainder : (w : List ℕ) (start : ℕ) → remainder w 0 (length w) start ≡ drop start w
whole-remainder w start = let z : start - 0 ≡ start = omega arith in rw (z, take-length w)

-- a range that what follows it leads
pub compatible-led : (w : List ℕ) (first end start other : ℕ) → Leads (slice first end w) (drop end w) → end ≤ length w
    → first ≤ start → start < end → first ≤ other → other < end → ¬ (start ≡ other)
    → sign w first end start other ≡ sign w 0 (length w) start other
compatible-led w first end start other leads h a b c d n = sign-same-order w first end 0 (length w) start other
    (λ k. rw (whole start a b, whole other c d) (≼-≺ (range-before leads (start - first) (other - first) (≺-≼ k)) differ))
    (λ k. ≼-≺ (before-range leads (start - first) (other - first) (≺-≼ (rw (whole start a b, whole other c d) at k))) differ-within)
  where
    suffix : (s : ℕ) → first ≤ s → s < end → drop s w ≡ remainder w first end s ++ drop end w
    suffix s x y = range-suffix w first end (omega arith) h s x (omega arith)

    whole : (s : ℕ) → first ≤ s → s < end → remainder w 0 (length w) s ≡ remainder w first end s ++ drop end w
    whole s x y = whole-remainder w s ∙ suffix s x y

    differ : ¬ (length (remainder w first end start ++ drop end w) ≡ length (remainder w first end other ++ drop end w))
    differ z = n (omega (arith, simp length-drop at (rw (← suffix start a b, ← suffix other c d) at z)))

    differ-within : ¬ (length (remainder w first end start) ≡ length (remainder w first end other))
    differ-within z = n (omega (arith, simp (length-drop, length-take-le end w h) at z))

pub compatible : (w : List ℕ) (first end start other : ℕ) → FirstSuffix end w → end ≤ length w
    → first ≤ start → start < end → first ≤ other → other < end → ¬ (start ≡ other)
    → sign w first end start other ≡ sign w 0 (length w) start other
compatible w first end start other f h a b c d n =
    compatible-led w first end start other (range-leads w first end (omega arith) h f) h a b c d n
