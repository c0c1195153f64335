-- The pass from left to right, over plain lists: the entries that were written, with those of the breaks among the cuts that are left after them, are the
-- entries of all breaks; from entry next on stand the ends that are left.
use mathlib.Core.Path.{◌≡◌, refl, ap, sym, ◌∙◌}
use mathlib.Core.Logic.{◌⊎◌, inl, inr}
use mathlib.Core.Bool.{Bool, true, false}
use mathlib.Core.List.{List, [], ◌∷◌, ◌++◌, append_assoc, append-nil, flatten, tail-eq_of_cons-eq}
use Prim.Native.Nat.{ℕ, suc, ◌+◌, ◌-◌, ◌*◌, ◌≤◌, ◌<◌}
use native.Mathlib.Omega.{arith}
use native.Mathlib.Decide.{dec_lt}
use lib.ListN.{length, take, drop, get_or, length-append, take-append-drop, drop_of_length-le}
use lib.Seq.{length-sets, slice, slice-cons, length-slice, length-take-le}
use Rattle.buffers.specs.Buffers.{written}
use Rattle.buffers.proofs.BufferLaws.{kept-past}
use Rattle.buffers.proofs.GroupLaws.{stored-front, stored-behind}
use Rattle.words.specs.Separated.{separated_breaks}
use Rattle.words.specs.declared.Break.{Break}
use Rattle.theory.specs.Breaks.BreakSteps.{kept_ends}
use Rattle.theory.specs.Stretches.CutSteps.{is_beside_separator, unless_beside}
use Rattle.theory.specs.Stretches.Cuts.{Cuts, breaks_among}
use Rattle.theory.specs.Stretches.Cuts.{record-ends, cuts_first, FirstOf, CutAt, record-breaks}
use Rattle.breaks.specs.declared.Found.{Found}
use Rattle.cuts.specs.Cutting.{notes_of, Noted}
use Rattle.cuts.proofs.NoteLaws.{few-noted, noted-cut, note-at}
use Rattle.fates.specs.Entries.{break_entries, entries_of_breaks}
use Rattle.fates.specs.Fates.{Near, break_by, cut_entries, WriteRoom, BreakWritten, Writable}
use Rattle.fates.proofs.EntryLaws.{length-entries}
use Rattle.fates.proofs.FateLaws.{cut_at, near, break-is, kept-ends-on, joined-ends-on}

-- the word's end is left in any case
some_end : (w : List ℕ) (bs : List Break) → 0 < length (kept_ends w bs)
some_end w bs = rw length-append (omega arith)

-- ---- one cut's entries, and those of the cuts after it

among_next : (w : List ℕ) (b : Break) (bs : List Break) → entries_of_breaks (breaks_among w (b ∷ bs)) ≡ cut_entries w b ++ entries_of_breaks (breaks_among w bs)
unfolding breaks_among flatten
among_next w b bs = go (is_beside_separator w b.place)
  where
    go : (t : Bool)
        → entries_of_breaks (unless_beside t b (breaks_among w bs)) ≡ entries_of_breaks (unless_beside t b []) ++ entries_of_breaks (breaks_among w bs)
    go true = refl
    go false = ap (λ (es : List ℕ). es ++ entries_of_breaks (breaks_among w bs)) (sym (append-nil (break_entries b)))

-- no entry is left of a list of length 0
empty-of-length : (es : List ℕ) → length es ≡ 0 → es ≡ []
empty-of-length [] e = refl
empty-of-length (x ∷ es) e = absurd (omega arith)

-- ---- the loop

pub record Writing (w work buffer₀ buffer : List ℕ) (all next end begun at k : ℕ) : Type 0 where
  pub cuts : List Break
  pub noted : Cuts w 0 cuts
  pub notes : take (2 * length cuts) (drop (length w) work) ≡ notes_of cuts
  pub walk : Cuts w begun (drop k cuts)
  pub inside : next < length w
  pub current : end ≡ get_or work next 0
  pub ends : slice next (length w) work ≡ kept_ends w (drop k cuts)
  pub left : at + length (entries_of_breaks (breaks_among w (drop k cuts))) ≡ all
  pub done : take at buffer ++ entries_of_breaks (breaks_among w (drop k cuts)) ≡ entries_of_breaks (separated_breaks w)
  pub kept : drop at buffer ≡ drop at buffer₀
  pub long : length buffer ≡ length buffer₀

module _ (w work buffer₀ : List ℕ) (found : Found) (x : Writable w work found buffer₀) where
  abbrev all : ℕ
  all = 5 * found.breaks

  pub write-starts : Writing w work buffer₀ buffer₀ all found.first (get_or work found.first 0) 0 0 0
  write-starts =
      let same : breaks_among w x.noted.cuts ≡ separated_breaks w = record-breaks x.noted.walk in
      record {
        cuts = x.noted.cuts;
        noted = x.noted.walk;
        notes = rw x.noted.number at x.noted.notes;
        walk = x.noted.walk;
        inside = x.inside;
        current = refl;
        ends = x.ends ∙ sym (record-ends x.noted.walk);
        left = rw (same, length-entries (separated_breaks w)) (omega (arith, x.breaks));
        done = rw same;
        kept = refl;
        long = refl;
      }

  pub work-inside : length w ≤ length work
  work-inside = omega (arith, x.room.entries)

  module _ (buffer : List ℕ) (next end begun at k : ℕ) (g : Writing w work buffer₀ buffer all next end begun at k) (m : at < all) where
    abbrev bs : List Break
    bs = g.cuts

    abbrev count : ℕ
    count = length bs

    abbrev noted : Noted w work count
    noted = record { cuts = bs; walk = g.noted; number = refl; notes = g.notes }

    -- a break is left, so a cut is
    l : k < count
    unfolding flatten breaks_among
    l = go (dec_lt k count)
      where
        go : Dec (k < count) → k < count
        go (yes h) = h
        go (no h) =
            let none : drop k bs ≡ [] = drop_of_length-le bs {i = k} (omega arith) in
            absurd (omega (arith, rw none at g.left))

    -- its note lies in the work buffer
    pub note-inside : (length w + 2 * k + 1 < length work) × (k < length w)
    note-inside = let few : count < length w = few-noted w work count noted in (omega (arith, few, l, x.room.entries), omega (arith, few, l))

    cut : CutAt w bs k
    cut = noted-cut w work count noted k l

    abbrev b : Break
    b = cut.told

    abbrev later : List Break
    later = drop (suc k) bs

    first : FirstOf w begun b later
    first = cuts_first (rw cut.is at g.walk)

    abbrev place : ℕ
    place = get_or work (length w + 2 * k) 0

    abbrev border : ℕ
    border = get_or work (length w + 2 * k + 1) 0

    place_is : place ≡ b.place
    unfolding cut
    place_is = (note-at w work count noted k l).0

    border-is : border ≡ b.border
    unfolding cut
    border-is = (note-at w work count noted k l).1

    ends-are : slice next (length w) work ≡ kept_ends w (b ∷ later)
    ends-are = g.ends ∙ ap (kept_ends w) cut.is

    ends-cons : slice next (length w) work ≡ end ∷ slice (suc next) (length w) work
    ends-cons = rw g.current (slice-cons next (length w) work 0 g.inside work-inside)

    end_is : end ≡ get_or (kept_ends w (b ∷ later)) 0 0
    end_is = ap (λ (t : List ℕ). get_or t 0 0) (sym ends-cons ∙ ends-are)

    pub near-at : Near w (cut_at place begun border end)
    near-at = rw (place_is, border-is) (near w begun b later first end_is)

    made : break_by w (cut_at place begun border end) ≡ b
    made = rw (place_is, border-is) (break-is w begun b later first end_is)

    -- this cut's entries, then those of the cuts after it
    entries-are : entries_of_breaks (breaks_among w (drop k bs)) ≡ cut_entries w b ++ entries_of_breaks (breaks_among w later)
    entries-are = ap (λ (cs : List Break). entries_of_breaks (breaks_among w cs)) cut.is ∙ among_next w b later

    entries-left : at + length (cut_entries w b) + length (entries_of_breaks (breaks_among w later)) ≡ all
    entries-left =
        let size : length (entries_of_breaks (breaks_among w (drop k bs))) ≡ length (cut_entries w b) + length (entries_of_breaks (breaks_among w later))
        = ap length entries-are ∙ length-append (cut_entries w b) (entries_of_breaks (breaks_among w later)) in
        omega (arith, g.left, size)

    pub room_at : WriteRoom w (break_by w (cut_at place begun border end)) buffer at
    room_at = rw made (omega (arith, entries-left, x.entries, g.long))

    -- the ends that are left, if the first one is this cut's place
    kept-left : place ≡ end → slice (suc next) (length w) work ≡ kept_ends w later
    kept-left z =
        let same : b.place ≡ get_or (kept_ends w (b ∷ later)) 0 0 = sym place_is ∙ (z ∙ end_is) in
        tail-eq_of_cons-eq (sym ends-cons ∙ (ends-are ∙ kept-ends-on w begun b later first same))

    pub next-inside : place ≡ end → next + 1 < length w
    next-inside z =
        let left : length w - suc next ≡ length (kept_ends w later) = sym (length-slice (suc next) (length w) work work-inside) ∙ ap length (kept-left z) in
        omega (arith, left, some_end w later)

    -- buffer' is what writing it left, at' the entry after it
    module _ (buffer' : List ℕ) (at' : ℕ) (y : BreakWritten w (break_by w (cut_at place begun border end)) buffer at at' buffer') where
      wrote : BreakWritten w b buffer at at' buffer'
      wrote = rw made at y

      size : at + length (cut_entries w b) ≡ at'
      size = sym wrote.next

      fits : at' ≤ length buffer
      fits = omega (arith, size, entries-left, x.entries, g.long)

      taken : take at' buffer' ≡ take at buffer ++ cut_entries w b
      taken = ap (take at') wrote.stored ∙ stored-front buffer (cut_entries w b) at at' size fits

      past : drop at' buffer' ≡ drop at' buffer
      past = ap (drop at') wrote.stored ∙ stored-behind buffer (cut_entries w b) at at' size fits

      same_length : length buffer' ≡ length buffer
      same_length = ap length wrote.stored ∙ length-sets buffer at (cut_entries w b)

      written_on : (next' : ℕ) → next' < length w → slice next' (length w) work ≡ kept_ends w later
          → Writing w work buffer₀ buffer' all next' (get_or work next' 0) place at' (k + 1)
      written_on next' i t =
          let z : suc k ≡ k + 1 = omega arith in
          let done : take at' buffer' ++ entries_of_breaks (breaks_among w later) ≡ entries_of_breaks (separated_breaks w)
          = ap (λ (us : List ℕ). us ++ entries_of_breaks (breaks_among w later)) taken
          ∙ (append_assoc (take at buffer) (cut_entries w b) (entries_of_breaks (breaks_among w later))
          ∙ (ap (λ (us : List ℕ). take at buffer ++ us) (sym entries-are) ∙ g.done)) in
          record {
            cuts = bs;
            noted = g.noted;
            notes = g.notes;
            walk = rw (place_is, ← z) first.rest;
            inside = i;
            current = refl;
            ends = rw (← z) t;
            left = rw (← z) (omega (arith, entries-left, size));
            done = rw (← z) done;
            kept = past ∙ kept-past at at' buffer buffer₀ (omega (arith, size)) g.kept;
            long = same_length ∙ g.long;
          }

      kept_on : place ≡ end → Writing w work buffer₀ buffer' all (next + 1) (get_or work (next + 1) 0) place at' (k + 1)
      kept_on z = written_on (next + 1) (next-inside z) (let n : suc next ≡ next + 1 = omega arith in rw (← n) (kept-left z))

      joined-on : ¬ (place ≡ end) → Writing w work buffer₀ buffer' all next end place at' (k + 1)
      joined-on n =
          let other : ¬ (b.place ≡ get_or (kept_ends w (b ∷ later)) 0 0) = λ e. n (place_is ∙ (e ∙ sym end_is)) in
          rw g.current (written_on next g.inside (ends-are ∙ joined-ends-on w begun b later first other))

      pub write-on : (next' end' : ℕ)
          → ((place ≡ end) × (next' ≡ next + 1) × (end' ≡ get_or work (next + 1) 0)) ⊎ ((¬ (place ≡ end)) × (next' ≡ next) × (end' ≡ end))
          → Writing w work buffer₀ buffer' all next' end' place at' (k + 1)
      write-on next' end' (inl z) = rw (z.1, z.2) (kept_on z.0)
      write-on next' end' (inr z) = rw (z.1, z.2) (joined-on z.0)

  -- past the last note all entries are written
  pub writes-all : (buffer : List ℕ) (next end begun at k : ℕ) → Writing w work buffer₀ buffer all next end begun at k → length w ≤ k → all ≤ at
  writes-all buffer next end begun at k g past = go (dec_lt at all)
    where
      go : Dec (at < all) → all ≤ at
      go (yes m) = absurd (omega (arith, (note-inside buffer next end begun at k g m).1))
      go (no m) = omega arith

  pub write-ends : (buffer : List ℕ) (next end begun at k : ℕ) → Writing w work buffer₀ buffer all next end begun at k → all ≤ at
      → buffer ≡ written (entries_of_breaks (separated_breaks w)) buffer₀
  write-ends buffer next end begun at k g l =
      let none : entries_of_breaks (breaks_among w (drop k g.cuts)) ≡ [] = empty-of-length _ (omega (arith, g.left)) in
      let es : List ℕ = entries_of_breaks (separated_breaks w) in
      let whole : take at buffer ≡ es = sym (append-nil (take at buffer)) ∙ (rw none at g.done) in
      let size : at ≡ length es = sym (length-take-le at buffer (omega (arith, g.left, x.entries, g.long))) ∙ ap length whole in
      sym (take-append-drop at buffer)
      ∙ (ap (λ (t : List ℕ). t ++ drop at buffer) whole
      ∙ ap (λ (t : List ℕ). es ++ t) (g.kept ∙ ap (λ (m : ℕ). drop m buffer₀) size))
