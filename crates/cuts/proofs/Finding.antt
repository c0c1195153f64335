-- The forward pass, over plain lists: the notes that were taken are those of the cuts that were found, and whatever cuts the rest has complete them.
use mathlib.Core.Path.{◌≡◌, refl, ap, sym, ◌∙◌}
use mathlib.Core.Bool.{Bool, true, false}
use mathlib.Core.List.{List, [], ◌∷◌, ◌++◌, append_assoc, append-nil}
use Prim.Native.Nat.{ℕ, suc, ◌+◌, ◌*◌, ◌≤◌, ◌<◌}
use native.Mathlib.Omega.{arith}
use lib.ListN.{length, take, drop, set, length-set, length-drop, length-append}
use lib.Seq.{take-suc-set, drop-set-add, drop-set-lt}
use Rattle.std.specs.Prelude.{Option, None, Some}
use Rattle.buffers.proofs.BufferLaws.{kept-past}
use Rattle.buffers.proofs.PartLaws.{rest, rest-is}
use Rattle.words.specs.declared.Break.{Break}
use Rattle.theory.specs.Stretches.CutSteps.{is_beside_separator, unless_beside, cut_at, CutBy}
use Rattle.theory.specs.Stretches.Cuts.{Cuts, last, cut, breaks_among}
use Rattle.theory.specs.Stretches.Cuts.{record-breaks}
use Rattle.extension.specs.Extension.{TestRoom}
use Rattle.cuts.specs.declared.Cut.{Cut}
use Rattle.cuts.specs.Cutting.{CutRoom, FirstCut, notes_of, CutsFound}
use Rattle.cuts.proofs.NoteLaws.{among-few, notes-append}

-- ---- a note

-- two entries more, at entry n + i of the buffer
noted_more : (work : List ℕ) (n i e r : ℕ) → n + i + 1 < length work
    → take (suc (suc i)) (drop n (set (set work (n + i) e) (n + i + 1) r)) ≡ take i (drop n work) ++ e ∷ r ∷ []
noted_more work n i e r l =
    let z : n + i + 1 ≡ n + suc i = omega arith in
    let m : i < length (drop n work) = rw length-drop (omega arith) in
    rw (z, drop-set-add n (set work (n + i) e) (suc i) r, drop-set-add n work i e)
    (take-suc-set (set (drop n work) i e) (suc i) r (rw (length-set, length-drop) (omega arith))
    ∙ (ap (λ (t : List ℕ). t ++ r ∷ []) (take-suc-set (drop n work) i e m) ∙ append_assoc (take i (drop n work)) (e ∷ []) (r ∷ [])))

-- ---- one cut more, and one break more if it lies beside no separator

among-append : (w : List ℕ) (bs cs : List Break) → breaks_among w (bs ++ cs) ≡ breaks_among w bs ++ breaks_among w cs
unfolding breaks_among
among-append w [] cs = refl
among-append w (b ∷ bs) cs = go (is_beside_separator w b.place) (among-append w bs cs)
  where
    go : (t : Bool) → breaks_among w (bs ++ cs) ≡ breaks_among w bs ++ breaks_among w cs
        → unless_beside t b (breaks_among w (bs ++ cs)) ≡ unless_beside t b (breaks_among w bs) ++ breaks_among w cs
    go true e = e
    go false e = ap (λ (t : List Break). b ∷ t) e

module _ (w : List ℕ) (bs : List Break) (b : Break) where
  beside-more : is_beside_separator w b.place ≡ true → length (breaks_among w (bs ++ b ∷ [])) ≡ length (breaks_among w bs)
  unfolding breaks_among
  beside-more e = ap length (among-append w bs (b ∷ [])) ∙ (length-append (breaks_among w bs) _ ∙ rw e (omega arith))

  break-more : is_beside_separator w b.place ≡ false → length (breaks_among w (bs ++ b ∷ [])) ≡ length (breaks_among w bs) + 1
  unfolding breaks_among
  break-more e = ap length (among-append w bs (b ∷ [])) ∙ (length-append (breaks_among w bs) _ ∙ rw e (omega arith))

-- ---- the loop

pub record Finding (w work₀ work : List ℕ) (n from cuts breaks : ℕ) : Type 0 where
  pub size : n ≡ length w
  pub few : cuts ≤ from
  pub inside : from < length w
  pub found : List Break
  pub whole : (bs : List Break) → Cuts w from bs → Cuts w 0 (found ++ bs)
  pub number : cuts ≡ length found
  pub broken : breaks ≡ length (breaks_among w found)
  pub notes : take (2 * cuts) (drop (length w) work) ≡ notes_of found
  pub kept : drop (3 * length w) work ≡ drop (3 * length w) work₀
  pub long : length work ≡ length work₀

pub find-starts : (w work : List ℕ) → CutRoom w work → Finding w work work (length w) 0 0 0
unfolding notes_of breaks_among
find-starts w work r = record {
  size = refl;
  few = omega arith;
  inside = r.nonempty;
  found = [];
  whole = λ bs c. c;
  number = refl;
  broken = refl;
  notes = refl;
  kept = refl;
  long = refl;
}

pub breaks-few : {w work₀ work : List ℕ} {n from cuts breaks : ℕ} → Finding w work₀ work n from cuts breaks → breaks ≤ cuts
breaks-few {w} g = omega (arith, g.broken, g.number, among-few w g.found)

pub find-fits : (w work₀ work : List ℕ) (n from cuts breaks : ℕ) → CutRoom w work₀ → Finding w work₀ work n from cuts breaks → TestRoom (rest from w) work
find-fits w work₀ work n from cuts breaks r g = rw (rest-is from w) (record {
  nonempty = rw length-drop (omega (arith, g.inside));
  short = rw length-drop (omega (arith, r.short));
  entries = rw length-drop (omega (arith, r.entries, g.long));
})

module _ (w work₀ work work₁ : List ℕ) (n from cuts breaks : ℕ) (g : Finding w work₀ work n from cuts breaks) (a : Option Cut)
    (f : FirstCut (rest from w) work a work₁) where
  first : FirstCut (drop from w) work a work₁
  first = rw (rest-is from w) at f

  -- the entries of the rest's letters are used, no others
  kept_from : (m : ℕ) → length w ≤ m → drop m work₁ ≡ drop m work
  kept_from m l = kept-past (length (drop from w)) m work₁ work (rw length-drop (omega arith)) first.kept

  pub find-ends : a ≡ None → CutsFound w work₀ (record { cuts = cuts; breaks = breaks }) work₁
  find-ends z =
      let all : Cuts w 0 g.found = rw append-nil at (g.whole [] (last g.inside (rw z at first.told))) in
      record {
        noted = record { cuts = g.found; walk = all; number = g.number; notes = rw (kept_from (length w) (omega arith)) g.notes };
        breaks = g.broken ∙ ap length (record-breaks all);
        kept = kept_from (3 * length w) (omega arith) ∙ g.kept;
      }

  module _ {x : Cut} (z : a ≡ Some x) where
    abbrev p : ℕ
    p = x.prefix

    abbrev r : ℕ
    r = x.border

    pub cut_by : CutBy (drop from w) p r
    cut_by = rw z at first.told

    pub cut_inside : from + p + r < length w
    cut_inside = omega (arith, cut_by.inside, length-drop from w)

    abbrev told : Break
    told = cut_at from p r (drop from w)

    abbrev after : List ℕ
    after = set (set work₁ (n + 2 * cuts) (from + p)) (n + 2 * cuts + 1) r

    -- with the number of breaks after it
    module _ (m : 3 * length w ≤ length work₁) (y : length work₁ ≡ length work) (breaks' : ℕ)
        (t : breaks' ≡ length (breaks_among w (g.found ++ told ∷ []))) where
      pub find-on : Finding w work₀ after n (from + p) (cuts + 1) breaks'
      unfolding notes_of
      find-on = record {
        size = g.size;
        few = omega (arith, g.few, cut_by.positive);
        inside = omega (arith, cut_inside);
        found = g.found ++ told ∷ [];
        whole = λ bs c. rw (append_assoc g.found (told ∷ []) bs) (g.whole (told ∷ bs) (cut p r g.inside cut_by c));
        number = let size : length (g.found ++ told ∷ []) ≡ length g.found + 1 = length-append g.found (told ∷ []) in omega (arith, g.number, size);
        broken = t;
        notes = noted ∙ (ap (λ (es : List ℕ). es ++ (from + p) ∷ r ∷ []) g.notes ∙ sym (notes-append g.found (told ∷ [])));
        kept =
            drop-set-lt (3 * length w) (set work₁ (n + 2 * cuts) (from + p)) (n + 2 * cuts + 1) r (omega (arith, g.size, g.few, g.inside))
            ∙ (drop-set-lt (3 * length w) work₁ (n + 2 * cuts) (from + p) (omega (arith, g.size, g.few, g.inside))
            ∙ (kept_from (3 * length w) (omega arith) ∙ g.kept));
        long = length-set (set work₁ (n + 2 * cuts) (from + p)) (n + 2 * cuts + 1) r ∙ (length-set work₁ (n + 2 * cuts) (from + p) ∙ (y ∙ g.long));
      }
        where
          noted : take (2 * (cuts + 1)) (drop (length w) after) ≡ take (2 * cuts) (drop (length w) work) ++ (from + p) ∷ r ∷ []
          noted =
              let k : 2 * (cuts + 1) ≡ suc (suc (2 * cuts)) = omega arith in
              rw (k, g.size) (noted_more work₁ (length w) (2 * cuts) (from + p) r (omega (arith, g.few, g.inside)) ∙ rw (kept_from (length w) (omega arith)))

    module _ (m : 3 * length w ≤ length work₁) (y : length work₁ ≡ length work) where
      pub find-beside : is_beside_separator w (from + p) ≡ true → Finding w work₀ after n (from + p) (cuts + 1) breaks
      find-beside e = find-on m y breaks (g.broken ∙ sym (beside-more w g.found told e))

      pub find-break : is_beside_separator w (from + p) ≡ false → Finding w work₀ after n (from + p) (cuts + 1) (breaks + 1)
      find-break e = find-on m y (breaks + 1) (rw g.broken (sym (break-more w g.found told e)))
