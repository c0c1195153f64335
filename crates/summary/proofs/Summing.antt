-- Parts summed up, over plain lists: what sum_up or a tally has of the parts before a, taken together with the parts that follow, is the definition's value
-- for the whole list (specs/Tallies). LongestSoFar, Banded and SummedUpTo each have a law for one more part, of length e - a, and for the end;
-- at the end of this file they are those of the tally itself.
use mathlib.Core.Path.{◌≡◌, sym, ◌∙◌}
use mathlib.Core.Logic.{◌⊎◌, inl, inr}
use mathlib.Core.List.{List, [], ◌∷◌}
use Prim.Native.Nat.{ℕ, suc, ◌+◌, ◌-◌, ◌≤◌, ◌<◌, max}
use native.Mathlib.Decide.{ℕ_discrete}
use native.Mathlib.Omega.{arith}
use native.Mathlib.Numerals.{add-one}
use lib.ListN.{length, drop, get_or, set, length-set, drop_of_length-le}
use lib.Seq.{drop-cons, get_or-set_same, get_or-set_other, ext_get_or}
use Rattle.summary.specs.Summary.{lengths_from, greatest, start_of, bit_length_of, count_of, bands_of, summary_of, Summable}
use Rattle.summary.specs.Tallies.{longest_of, LongestSoFar, bands_from, Banded, SummedUpTo, Tallied, NextEnd}
use Rattle.summary.specs.declared.Tally.{Tally}
use Rattle.summary.proofs.BitLengths.{bit-length-some, bit-length-most}
use Rattle.summary.proofs.SummaryLaws.{start-here, start-later, count-here, count-other, count-above, count-greatest, count_most}
use Rattle.summary.proofs.SummaryLaws.{bands-length, bands-at}

-- ---- the longest part

-- m and f are kept beside a part that is shorter than the longest before it, and are those of any other
abbrev pub Chosen : (size longest from last m f : ℕ) → Type 0
Chosen size longest from last m f = ((size < longest) × (m ≡ longest) × (f ≡ from)) ⊎ ((longest ≤ size) × (m ≡ size) × (f ≡ last))

module _ {es rs : List ℕ} {longest from a e : ℕ} (g : LongestSoFar es longest from a (e ∷ rs)) where
  most-next : max longest (max (e - a) (greatest (lengths_from e rs))) ≡ longest_of es
  unfolding lengths_from greatest
  most-next = g.most

  longest-kept : e - a < longest → LongestSoFar es longest from e rs
  unfolding lengths_from greatest
  longest-kept h = record {
    most = omega (arith, most-next);
    none = g.none;
    settled = λ l. g.settled (omega arith);
    ahead = λ l. sym (start-later (longest_of es) a e rs (λ z. omega (arith, z.0, most-next))) ∙ g.ahead (omega arith);
  }

  longest-replaced : longest ≤ e - a → 0 < e - a → LongestSoFar es (e - a) a e rs
  unfolding lengths_from greatest
  longest-replaced h p = record {
    most = omega (arith, most-next);
    none = λ z. absurd (omega arith);
    settled = λ l.
        let here = count-above (longest_of es) (lengths_from e rs) (omega (arith, most-next)) in
        sym (start-here (longest_of es) a e rs (omega (arith, most-next), here)) ∙ g.ahead (omega arith);
    ahead = λ l.
        let later = count-greatest (longest_of es) (lengths_from e rs) (omega (arith, most-next)) (omega (arith, most-next)) in
        sym (start-later (longest_of es) a e rs (λ z. omega (arith, z.1, later))) ∙ g.ahead (omega arith);
  }

  longest-next : {m f : ℕ} → 0 < e - a → Chosen (e - a) longest from a m f → LongestSoFar es m f e rs
  longest-next p (inl x) = rw (x.1, x.2) (longest-kept x.0)
  longest-next p (inr x) = rw (x.1, x.2) (longest-replaced x.0 p)

longest-end : {es : List ℕ} {longest from a : ℕ} → LongestSoFar es longest from a [] → from ≡ start_of (longest_of es) 0 es
unfolding lengths_from greatest start_of
longest-end {es} {longest} {from} g = go (ℕ_discrete longest 0)
  where
    go : Dec (longest ≡ 0) → from ≡ start_of (longest_of es) 0 es
    go (yes z) = g.none z ∙ g.ahead (omega arith)
    go (no z) = g.settled (omega arith)

-- ---- the counts

-- one more part in band k
abbrev pub counted_at : ℕ → List ℕ → List ℕ
counted_at k bands = set bands k (get_or bands k 0 + 1)

banded-next : {es bands rs : List ℕ} {a e : ℕ} (digits : ℕ) → Banded es bands a (e ∷ rs) → digits ≡ bit_length_of (e - a) → 0 < digits
    → Banded es (counted_at (digits - 1) bands) e rs
unfolding lengths_from
banded-next {es} {bands} {rs} {a} {e} digits g b p = record {
  thirteen = simp length-set g.thirteen;
  counts = λ k l. go k l (ℕ_discrete k (digits - 1)) (g.counts k l);
}
  where
    go : (k : ℕ) → k < 13 → Dec (k ≡ digits - 1) → get_or bands k 0 + count_of (suc k) (bands_from a (e ∷ rs)) ≡ count_of (suc k) (bands_from 0 es)
        → get_or (counted_at (digits - 1) bands) k 0 + count_of (suc k) (bands_from e rs) ≡ count_of (suc k) (bands_from 0 es)
    go k l (yes q) m =
        let c = count-here (suc k) (bit_length_of (e - a)) (bands_from e rs) (omega arith) in
        let s : get_or (counted_at (digits - 1) bands) k 0 ≡ get_or bands k 0 + 1 = rw q (get_or-set_same bands (digits - 1) _ 0 (omega (arith, g.thirteen))) in
        omega arith
    go k l (no q) m =
        let c = count-other (suc k) (bit_length_of (e - a)) (bands_from e rs) (λ z. omega arith) in
        let s = get_or-set_other bands (digits - 1) k (get_or bands (digits - 1) 0 + 1) 0 q in
        omega arith

banded-end : (es bands : List ℕ) (a : ℕ) → Banded es bands a [] → bands ≡ bands_of es
unfolding lengths_from count_of
banded-end es bands a g =
    ext_get_or 0 bands (bands_of es) (g.thirteen ∙ sym (bands-length es))
    (λ k l. omega (arith, g.counts k (omega (arith, g.thirteen)), bands-at es k (omega (arith, g.thirteen))))

-- ---- the loop

module _ {es bands : List ℕ} {longest from last i : ℕ} (g : SummedUpTo es longest from bands last i) where
  -- another part can be counted
  pub summed-room : (k : ℕ) → k < 13 → get_or bands k 0 ≤ length es
  summed-room k l = omega (arith, g.bands-are.counts k l, count_most (suc k) 0 es)

  module _ (l : i < length es) where
    pub summed-above : Summable es → {end : ℕ} → end ≡ get_or es i 0 → last < end
    summed-above s e = rw (e, g.last-is) (s.rising i l)

    -- the band in which the next part is counted
    pub summed-band : Summable es → {end d : ℕ} → end ≡ get_or es i 0 → d ≡ bit_length_of (end - last) → (1 ≤ d) × (d ≤ 13)
    summed-band s e b = rw b (bit-length-some _ (omega (arith, summed-above s e)), bit-length-most _ (omega (arith, s.short i, e)))

    next-longest : LongestSoFar es longest from last (get_or es i 0 ∷ drop (suc i) es)
    next-longest = rw (drop-cons es i 0 l) at g.longest-is

    next-bands : Banded es bands last (get_or es i 0 ∷ drop (suc i) es)
    next-bands = rw (drop-cons es i 0 l) at g.bands-are

    summed-next : {m f digits : ℕ} → last < get_or es i 0 → Chosen (get_or es i 0 - last) longest from last m f
        → digits ≡ bit_length_of (get_or es i 0 - last) → 0 < digits
        → SummedUpTo es m f (counted_at (digits - 1) bands) (get_or es i 0) (i + 1)
    summed-next {digits = digits} above x b p = record {
      inside = omega arith;
      last-is = rw (add-one i);
      longest-is = rw (add-one i) (longest-next next-longest (omega arith) x);
      bands-are = rw (add-one i) (banded-next digits next-bands b p);
    }

    -- the same, with the end as it was read
    pub summed-on : {end m f digits : ℕ} → end ≡ get_or es i 0 → last < end → Chosen (end - last) longest from last m f
        → digits ≡ bit_length_of (end - last) → 0 < digits → SummedUpTo es m f (counted_at (digits - 1) bands) end (i + 1)
    summed-on e above x b p = rw e (summed-next (rw e at above) (rw e at x) (rw e at b) p)

  pub summed-end : length es ≤ i → record { count = i; longest = longest; from = from; bands = bands } ≡ summary_of es
  unfolding summary_of lengths_from greatest
  summed-end l =
      let none = drop_of_length-le es {i = i} l in
      let n : LongestSoFar es longest from last [] = rw none at g.longest-is in
      let count : i ≡ length es = omega (arith, g.inside) in
      let most : longest ≡ longest_of es = omega (arith, n.most) in
      let start = longest-end n in
      let all = banded-end es bands last (rw none at g.bands-are) in
      λ t. record { count = count t; longest = most t; from = start t; bands = all t }

-- ---- the tally

-- the part's length is held against the longest
pub record Weighed (t : Tally) (size : ℕ) (s : Tally) : Type 0 where
  pub count : s.summary.count ≡ t.summary.count
  pub bands : s.summary.bands ≡ t.summary.bands
  pub chosen : Chosen size t.summary.longest t.summary.from t.last s.summary.longest s.summary.from

module _ {es : List ℕ} {t : Tally} {end : ℕ} (n : NextEnd es t end) where
  pub tally-above : t.last < end
  tally-above = summed-above n.tallied.summed n.some n.summable n.is

  pub tally-band : {d : ℕ} → d ≡ bit_length_of (end - t.last) → (1 ≤ d) × (d ≤ 13)
  tally-band b = summed-band n.tallied.summed n.some n.summable n.is b

  module _ {s : Tally} (w : Weighed t (end - t.last) s) where
    pub tally-room : (k : ℕ) → k < 13 → get_or s.summary.bands k 0 < 65535
    tally-room k l = rw w.bands (omega (arith, summed-room n.tallied.summed k l, n.summable.few))

    pub tally-next : {d : ℕ} → d ≡ bit_length_of (end - t.last) → Tallied es (record {
      summary = record {
        count = s.summary.count + 1;
        longest = s.summary.longest;
        from = s.summary.from;
        bands = counted_at (d - 1) s.summary.bands;
      };
      last = end;
    })
    tally-next b = record {
      summed = rw (w.count, w.bands) (summed-on n.tallied.summed n.some n.is tally-above w.chosen b (tally-band b).0);
    }

pub tally-end : {es : List ℕ} {t : Tally} → Tallied es t → length es ≤ t.summary.count → t.summary ≡ summary_of es
tally-end g l = summed-end g.summed l
