-- The backward pass, over plain lists: from entry top up to entry n stand the ends of what follows the first k cuts.
use mathlib.Core.Path.{◌≡◌, refl, ap, sym, ◌∙◌}
use mathlib.Core.List.{List, [], ◌∷◌}
use Prim.Native.Nat.{ℕ, suc, ◌+◌, ◌-◌, ◌*◌, ◌≤◌, ◌<◌}
use native.Mathlib.Omega.{arith}
use lib.ListN.{length, take, drop, get_or, set, length-set, drop_of_length-le}
use lib.Seq.{slice, slice-cons, slice_empty, drop-set-lt, get_or-set_same}
use Rattle.buffers.proofs.PartLaws.{part-is}
use Rattle.buffers.proofs.BufferLaws.{kept-past}
use Rattle.theory.specs.Statements.{kept_places}
use Rattle.words.specs.declared.Fate.{Fate}
use Rattle.words.specs.declared.Break.{Break}
use Rattle.theory.specs.Breaks.BreakSteps.{Ended, kept, joined, kept_ends}
use Rattle.theory.specs.Stretches.Cuts.{Cuts}
use Rattle.theory.specs.Stretches.Cuts.{record-ends, CutAt, cuts-few, record-breaks}
use Rattle.cuts.specs.declared.Counts.{Counts}
use Rattle.cuts.specs.Cutting.{CutRoom, notes_of, Noted, CutsFound}
use Rattle.cuts.proofs.NoteLaws.{noted-kept, among-few, few-noted, noted-cut, note-at}
use Rattle.breaks.specs.declared.Found.{Found}
use Rattle.breaks.specs.Gathering.{EndsGathered, CutFound}

-- ---- a part of the buffer that ends at n, one entry longer

slice-past : (xs : List ℕ) (i n v : ℕ) → slice (suc i) n (set xs i v) ≡ slice (suc i) n xs
slice-past xs i n v =
    sym (part-is (suc i) n (set xs i v)) ∙ (ap (take (n - suc i)) (drop-set-lt (suc i) xs i v (omega arith)) ∙ part-is (suc i) n xs)

slice-more : (xs : List ℕ) (i n v : ℕ) → i < n → n ≤ length xs → slice i n (set xs i v) ≡ v ∷ slice (suc i) n xs
slice-more xs i n v l m =
    slice-cons i n (set xs i v) 0 l (rw length-set m) ∙ rw (get_or-set_same xs i v 0 (omega arith), slice-past xs i n v)

-- ---- the loop

abbrev ends_after : List ℕ → List Break → ℕ → List ℕ
ends_after w bs k = kept_ends w (drop k bs)

pub record Gathering (w work₀ work : List ℕ) (count k top next : ℕ) : Type 0 where
  pub cuts : List Break
  pub walk : Cuts w 0 cuts
  pub number : count ≡ length cuts
  pub notes : take (2 * count) (drop (length w) work) ≡ notes_of cuts
  pub upto : k ≤ count
  pub low : length w + k ≤ top + 1 + count
  pub high : top < length w
  pub current : next ≡ get_or work top 0
  pub ends : slice top (length w) work ≡ ends_after w cuts k
  pub kept : drop (length w) work ≡ drop (length w) work₀
  pub long : length work ≡ length work₀

-- the record's end stands in the last entry before the notes
module _ (w work : List ℕ) (count : ℕ) (r : CutRoom w work) (x : Noted w work count) where
  abbrev pub started : List ℕ
  started = set work (length w - 1) (length w)

  started-kept : drop (length w) started ≡ drop (length w) work
  started-kept = drop-set-lt (length w) work (length w - 1) (length w) (omega (arith, r.nonempty))

  pub started-room : CutRoom w started
  started-room = record { nonempty = r.nonempty; short = r.short; entries = rw length-set r.entries }

  pub gather-starts : Gathering w started started count count (length w - 1) (length w)
  unfolding kept_places
  gather-starts =
      let none : drop count x.cuts ≡ [] = drop_of_length-le x.cuts {i = count} (omega (arith, x.number)) in
      let z : suc (length w - 1) ≡ length w = omega (arith, r.nonempty) in
      record {
        cuts = x.cuts;
        walk = x.walk;
        number = x.number;
        notes = rw started-kept x.notes;
        upto = omega arith;
        low = omega (arith, r.nonempty);
        high = omega (arith, r.nonempty);
        current = sym (get_or-set_same work (length w - 1) (length w) 0 (omega (arith, r.entries, r.nonempty)));
        ends = rw none (slice-more work (length w - 1) (length w) (length w) (omega (arith, r.nonempty)) (omega (arith, r.entries)) ∙ rw (z, slice_empty));
        kept = refl;
        long = refl;
      }

module _ (w work₀ work : List ℕ) (count k top next : ℕ) (r : CutRoom w work₀) (g : Gathering w work₀ work count k top next) where
  abbrev bs : List Break
  bs = g.cuts

  abbrev noted : Noted w work count
  noted = record { cuts = bs; walk = g.walk; number = g.number; notes = g.notes }

  pub few : count < length w
  few = few-noted w work count noted

  pub top-inside : top < length work
  top-inside = omega (arith, g.high, g.long, r.entries)

  module _ (p : 0 < k) where
    -- the last cut that is left
    abbrev i : ℕ
    i = k - 1

    left : i < count
    left = omega (arith, g.upto)

    cut : CutAt w bs i
    cut = noted-cut w work count noted i left

    place_is : get_or work (length w + 2 * i) 0 ≡ cut.told.place
    unfolding cut
    place_is = (note-at w work count noted i left).0

    border-is : get_or work (length w + 2 * i + 1) 0 ≡ cut.told.border
    unfolding cut
    border-is = (note-at w work count noted i left).1

    -- entry top is the end of the first factor of what follows
    next-is : next ≡ get_or (ends_after w bs k) 0 0
    next-is = g.current ∙ ap (λ (t : List ℕ). get_or t 0 0) (sym (slice-cons top (length w) work 0 g.high (omega (arith, r.entries, g.long))) ∙ g.ends)

    pub note-inside : length w + 2 * i + 1 < length work
    note-inside = omega (arith, g.long, r.entries, few, left)

    pub top-positive : 0 < top
    top-positive = omega (arith, g.low, g.upto, few)

    ended : Ended cut.told.place cut.told.border (get_or w (cut.begun + cut.told.border) 0)
        (get_or w (cut.told.place + cut.told.border) 0) (ends_after w bs i) (ends_after w bs k) cut.told.fate
    ended =
        let z : suc i ≡ k = omega arith in
        let after : ends_after w bs i ≡ kept_ends w (cut.told ∷ drop k bs) = ap (kept_ends w) (rw z at cut.is) in
        rw after (rw z at cut.first.ended)

    pub joined-on : next ≤ get_or work (length w + 2 * i) 0 + get_or work (length w + 2 * i + 1) 0 → Gathering w work₀ work count i top next
    joined-on l = record {
      cuts = bs;
      walk = g.walk;
      number = g.number;
      notes = g.notes;
      upto = omega (arith, g.upto);
      low = omega (arith, g.low);
      high = g.high;
      current = g.current;
      ends = g.ends ∙ sym (go ended);
      kept = g.kept;
      long = g.long;
    }
      where
        go : {a b : ℕ} {f : Fate} → Ended cut.told.place cut.told.border a b (ends_after w bs i) (ends_after w bs k) f → ends_after w bs i ≡ ends_after w bs k
        go (joined h s e) = e
        go (kept h e) = absurd (omega (arith, place_is, border-is, next-is))

    pub kept_on : get_or work (length w + 2 * i) 0 + get_or work (length w + 2 * i + 1) 0 < next
        → Gathering w work₀ (set work (top - 1) (get_or work (length w + 2 * i) 0)) count i (top - 1) (get_or work (length w + 2 * i) 0)
    kept_on l =
        let z : suc (top - 1) ≡ top = omega (arith, top-positive) in
        let same : drop (length w) (set work (top - 1) (get_or work (length w + 2 * i) 0)) ≡ drop (length w) work
        = drop-set-lt (length w) work (top - 1) (get_or work (length w + 2 * i) 0) (omega (arith, g.high)) in
        record {
          cuts = bs;
          walk = g.walk;
          number = g.number;
          notes = rw same g.notes;
          upto = omega (arith, g.upto);
          low = omega (arith, g.low, top-positive);
          high = omega (arith, g.high);
          current = sym (get_or-set_same work (top - 1) (get_or work (length w + 2 * i) 0) 0 (omega (arith, top-inside)));
          ends =
              slice-more work (top - 1) (length w) (get_or work (length w + 2 * i) 0) (omega (arith, g.high)) (omega (arith, r.entries, g.long))
              ∙ (rw (z, place_is, g.ends) (sym (go ended)));
          kept = same ∙ g.kept;
          long = length-set work (top - 1) (get_or work (length w + 2 * i) 0) ∙ g.long;
        }
      where
        go : {a b : ℕ} {f : Fate} → Ended cut.told.place cut.told.border a b (ends_after w bs i) (ends_after w bs k) f
            → ends_after w bs i ≡ cut.told.place ∷ ends_after w bs k
        go (kept h e) = e
        go (joined h s e) = absurd (omega (arith, place_is, border-is, next-is))

pub gather-ends : (w work₀ work : List ℕ) (count k top next : ℕ) → CutRoom w work₀ → Gathering w (set work₀ (length w - 1) (length w)) work count k top next
    → k ≤ 0 → EndsGathered w work₀ top work
gather-ends w work₀ work count k top next r g l =
    let z : k ≡ 0 = omega arith in
    record {
      inside = g.high;
      ends = g.ends ∙ (rw z (record-ends g.walk));
      kept = g.kept ∙ drop-set-lt (length w) work₀ (length w - 1) (length w) (omega (arith, r.nonempty));
    }

-- ---- both passes

pub cut-found : (w work work₁ work₂ : List ℕ) (first : ℕ) (r : Counts) → CutsFound w work r work₁ → EndsGathered w work₁ first work₂
    → CutFound w work (record { first = first; breaks = r.breaks }) work₂
cut-found w work work₁ work₂ first r b e = record {
  inside = e.inside;
  ends = e.ends;
  count = r.cuts;
  noted = noted-kept e.kept b.noted;
  breaks = b.breaks;
  kept = kept-past (length w) (3 * length w) work₂ work₁ (omega arith) e.kept ∙ b.kept;
}

-- some of the cuts are breaks, and there are fewer cuts than letters
pub breaks-fewer : {w work work' : List ℕ} {r : Found} → CutFound w work r work' → r.breaks < length w
breaks-fewer {w} x =
    let cuts = x.noted.cuts in
    omega (arith, x.breaks, ap length (record-breaks x.noted.walk), among-few w cuts, cuts-few x.noted.walk)
