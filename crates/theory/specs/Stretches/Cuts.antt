-- A record's cuts as a walk over it: Cuts w i bs says that bs are the cuts of what follows place i, each told as a break is. The places of the kept ones and the
-- record's end are its ends (cuts-ends), and those that are breaks are its breaks (cuts-breaks). The crates breaks and fates lean on this.
use Rattle.std.specs.Prelude.{◌≡◌, refl, List, [], ◌∷◌, ℕ, zero, suc, ◌+◌, ◌-◌, ◌<◌, length, take, drop, get_or}
use Rattle.std.proofs.Common.{ap, sym, ◌∙◌, arith, length-drop, length-take-le, drop-drop, get_or-drop}
use Rattle.words.specs.Factorizations.{ends_from}
use Rattle.theory.specs.Statements.{place_if_kept, kept_places}
use Rattle.words.specs.declared.Fate.{Fate}
use Rattle.words.specs.declared.Break.{Break}
use Rattle.theory.specs.Breaks.BreakSteps.{Ended, First, join-ended, ended_same, ended-places, place-append, kept_ends}
use Rattle.words.specs.Separated.{stretches, breaks_over, separated_icfl, separated_icfl_ends, separated_breaks}
use Rattle.theory.specs.Stretches.CutSteps.{is_beside_separator, unless_beside, cut_at, CutBy, Uncut, separated_first}

pub data Cuts (w : List ℕ) : ℕ → List Break → Type 0 where
  last : {i : ℕ} → i < length w → Uncut (drop i w) → Cuts w i []
  cut : {i : ℕ} {bs : List Break} (p r : ℕ) → i < length w → CutBy (drop i w) p r → Cuts w (i + p) bs → Cuts w i (cut_at i p r (drop i w) ∷ bs)

-- ---- ends

abbrev ends_after : List ℕ → ℕ → List ℕ
ends_after w i = ends_from i (separated_icfl (drop i w))

-- one cut of w, which begins at place i
cut-ended : (i p r : ℕ) (w : List ℕ) → CutBy w p r
    → Ended (i + p) r (get_or w r 0) (get_or w (p + r) 0) (ends_from i (separated_icfl w)) (ends_from (i + p) (separated_icfl (drop p w))) (cut_at i p r w).fate
cut-ended i p r w c =
    let f : First (separated_icfl (drop p w)) = separated_first (drop p w) (rw length-drop (omega (arith, c.inside))) in
    let size : length (take p w) ≡ p = length-take-le p w (omega (arith, c.inside)) in
    let e = join-ended i (take p w) r (get_or w r 0) (get_or w (p + r) 0) f.factor f.others f.some in
    rw (c.joins, f.is) (rw size at e)

pub cuts-ends : {w : List ℕ} {i : ℕ} {bs : List Break} → Cuts w i bs → ends_after w i ≡ kept_ends w bs
unfolding kept_places ends_from
cuts-ends {w} {i} (last l u) =
    let z : i + length (drop i w) ≡ length w = rw length-drop (omega arith) in
    rw (u.one, z)
cuts-ends {w} {i} (cut {bs = bs} p r l c s) =
    let f : Fate = (cut_at i p r (drop i w)).fate in
    ended-places (cut-ended i p r (drop i w) c)
    ∙ (ap (place_if_kept f (i + p)) (rw (drop-drop p i w) (cuts-ends s)) ∙ place-append f (i + p) (kept_places bs) (length w ∷ []))

pub record-ends : {w : List ℕ} {bs : List Break} → Cuts w 0 bs → kept_ends w bs ≡ separated_icfl_ends w
unfolding separated_icfl_ends
record-ends c = sym (cuts-ends c)

-- a cut for each place at most, and the record's end is none
pub cuts-few : {w : List ℕ} {i : ℕ} {bs : List Break} → Cuts w i bs → i + length bs < length w
cuts-few (last l u) = omega arith
cuts-few (cut p r l c s) = omega (arith, c.positive, cuts-few s)

-- ---- the first of the cuts bs, in places of w

pub record FirstOf (w : List ℕ) (i : ℕ) (b : Break) (bs : List Break) : Type 0 where
  pub starts : b.begun ≡ i
  pub forward : i < b.place
  pub inside : b.place + b.border < length w
  pub ended : Ended b.place b.border (get_or w (i + b.border) 0) (get_or w (b.place + b.border) 0) (kept_ends w (b ∷ bs)) (kept_ends w bs) b.fate
  pub rest : Cuts w b.place bs

pub cuts_first : {w : List ℕ} {i : ℕ} {b : Break} {bs : List Break} → Cuts w i (b ∷ bs) → FirstOf w i b bs
cuts_first {w} {i} (cut p r l c s) =
    let right : get_or (drop i w) (p + r) 0 ≡ get_or w (i + p + r) 0
    = get_or-drop i w (p + r) 0 ∙ ap (λ (k : ℕ). get_or w k 0) (let z : i + (p + r) ≡ i + p + r = omega arith in z) in
    record {
      starts = refl;
      forward = omega (arith, c.positive);
      inside = omega (arith, c.inside, length-drop i w);
      ended = ended_same refl refl (get_or-drop i w r 0) right (cuts-ends (cut p r l c s)) (rw (drop-drop p i w) (cuts-ends s)) refl (cut-ended i p r (drop i w) c);
      rest = s;
    }

-- cut k, with those after it
pub record CutAt (w : List ℕ) (bs : List Break) (k : ℕ) : Type 0 where
  pub begun : ℕ
  pub told : Break
  pub is : drop k bs ≡ told ∷ drop (suc k) bs
  pub first : FirstOf w begun told (drop (suc k) bs)

pub cut-at : {w : List ℕ} {i : ℕ} {bs : List Break} → Cuts w i bs → (k : ℕ) → k < length bs → CutAt w bs k
cut-at (last l u) k m = absurd (omega arith)
cut-at {w} {i} (cut p r l c s) zero m = record { begun = i; told = cut_at i p r (drop i w); is = refl; first = cuts_first (cut p r l c s) }
cut-at (cut p r l c s) (suc k) m = let b = cut-at s k (omega arith) in record { begun = b.begun; told = b.told; is = b.is; first = b.first }

-- ---- breaks

-- the cuts without those beside a separator
unfoldable pub breaks_among : List ℕ → List Break → List Break
breaks_among w [] = []
breaks_among w (b ∷ bs) = unless_beside (is_beside_separator w b.place) b (breaks_among w bs)

beside-later : (w : List ℕ) (i p : ℕ) → 0 < p → is_beside_separator (drop i w) p ≡ is_beside_separator w (i + p)
beside-later w i p l =
    let z : i + (p - 1) ≡ i + p - 1 = omega arith in
    let left : get_or (drop i w) (p - 1) 0 ≡ get_or w (i + p - 1) 0 = get_or-drop i w (p - 1) 0 ∙ ap (λ (k : ℕ). get_or w k 0) z in
    rw (left, get_or-drop i w p 0)

pub cuts-breaks : {w : List ℕ} {i : ℕ} {bs : List Break} → Cuts w i bs → breaks_over i (stretches (drop i w)) ≡ breaks_among w bs
unfolding breaks_among
cuts-breaks {w} {i} (last l u) = u.unbroken i
cuts-breaks {w} {i} (cut {bs = bs} p r l c s) =
    c.broken i ∙ rw (beside-later w i p c.positive, drop-drop p i w, cuts-breaks s)

pub record-breaks : {w : List ℕ} {bs : List Break} → Cuts w 0 bs → breaks_among w bs ≡ separated_breaks w
unfolding separated_breaks
record-breaks c = sym (cuts-breaks c)
