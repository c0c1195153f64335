-- Notes of cuts in the work buffer: cut k of the record is what the two entries of note k say (note-at); who leaves the entries behind the letters as they are,
-- leaves the notes (noted-kept).
use mathlib.Core.Path.{◌≡◌, refl, ap, sym, ◌∙◌}
use mathlib.Core.Bool.{Bool, true, false}
use mathlib.Core.List.{List, [], ◌∷◌, ◌++◌}
use Prim.Native.Nat.{ℕ, zero, suc, ◌+◌, ◌*◌, ◌≤◌, ◌<◌}
use native.Mathlib.Omega.{arith}
use lib.ListN.{length, drop, get_or}
use lib.Seq.{get_or-take, get_or-drop}
use Rattle.words.specs.declared.Break.{Break}
use Rattle.theory.specs.Stretches.CutSteps.{is_beside_separator, unless_beside}
use Rattle.theory.specs.Stretches.Cuts.{breaks_among}
use Rattle.theory.specs.Stretches.Cuts.{cuts-few, CutAt, cut-at}
use Rattle.cuts.specs.Cutting.{notes_of, Noted}

pub noted-kept : {w work work' : List ℕ} {count : ℕ} → drop (length w) work' ≡ drop (length w) work → Noted w work count → Noted w work' count
noted-kept e x = record { cuts = x.cuts; walk = x.walk; number = x.number; notes = rw e x.notes }

pub notes-append : (bs cs : List Break) → notes_of (bs ++ cs) ≡ notes_of bs ++ notes_of cs
unfolding notes_of
notes-append [] cs = refl
notes-append (b ∷ bs) cs = ap (λ (t : List ℕ). b.place ∷ b.border ∷ t) (notes-append bs cs)

-- some of the cuts are breaks
pub among-few : (w : List ℕ) (bs : List Break) → length (breaks_among w bs) ≤ length bs
unfolding breaks_among
among-few w [] = omega arith
among-few w (b ∷ bs) = go (is_beside_separator w b.place) (among-few w bs)
  where
    go : (t : Bool) → length (breaks_among w bs) ≤ length bs → length (unless_beside t b (breaks_among w bs)) ≤ length (b ∷ bs)
    go true h = omega arith
    go false h = omega arith

drop-notes : (k : ℕ) (bs : List Break) → drop (2 * k) (notes_of bs) ≡ notes_of (drop k bs)
unfolding notes_of
drop-notes zero bs = refl
drop-notes (suc k) [] = let z : 2 * suc k ≡ suc (suc (2 * k)) = omega arith in rw z
drop-notes (suc k) (b ∷ bs) = let z : 2 * suc k ≡ suc (suc (2 * k)) = omega arith in rw z (drop-notes k bs)

module _ (w work : List ℕ) (count : ℕ) (x : Noted w work count) where
  pub few-noted : count < length w
  few-noted = omega (arith, x.number, cuts-few x.walk)

  entry_of : (j : ℕ) → j < 2 * count → get_or work (length w + j) 0 ≡ get_or (notes_of x.cuts) j 0
  entry_of j l = sym (get_or-drop (length w) work j 0)
      ∙ (sym (get_or-take (2 * count) (drop (length w) work) j 0 l) ∙ ap (λ (t : List ℕ). get_or t j 0) x.notes)

  module _ (k : ℕ) (l : k < count) where
    pub noted-cut : CutAt w x.cuts k
    noted-cut = cut-at x.walk k (omega (arith, x.number))

    note-of : (j : ℕ) → get_or (notes_of x.cuts) (2 * k + j) 0
        ≡ get_or (noted-cut.told.place ∷ noted-cut.told.border ∷ notes_of (drop (suc k) x.cuts)) j 0
    unfolding notes_of
    note-of j = sym (get_or-drop (2 * k) (notes_of x.cuts) j 0) ∙ ap (λ (t : List ℕ). get_or t j 0) (drop-notes k x.cuts ∙ ap notes_of noted-cut.is)

    pub note-at : (get_or work (length w + 2 * k) 0 ≡ noted-cut.told.place) × (get_or work (length w + 2 * k + 1) 0 ≡ noted-cut.told.border)
    note-at =
        let a : 2 * k + 0 ≡ 2 * k = omega arith in
        let b : length w + (2 * k + 1) ≡ length w + 2 * k + 1 = omega arith in
        (entry_of (2 * k) (omega arith) ∙ (rw a at (note-of 0)), rw b at (entry_of (2 * k + 1) (omega arith)) ∙ note-of 1)
