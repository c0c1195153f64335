-- The entries of breaks: five stores are a break's entries (kept-stored, joined-stored); those of a cut, by whether it is a break (no-break-written,
-- break-written); all entries, one break after another (length-entries).
use mathlib.Core.Path.{◌≡◌, refl, ap, ◌∙◌}
use mathlib.Core.Bool.{Bool, true, false}
use mathlib.Core.List.{List, [], ◌∷◌, append-nil, flatten}
use Prim.Native.Nat.{ℕ, ◌+◌, ◌*◌, ◌≤◌}
use native.Mathlib.Omega.{arith}
use native.Mathlib.Numerals.{add-one, add-two, add-three, add-four}
use lib.ListN.{length, set}
use lib.Seq.{sets}
use Rattle.buffers.proofs.GroupLaws.{grouped-length}
use Rattle.words.specs.declared.Fate.{Fate}
use Rattle.words.specs.declared.Fate.TheVariants.{Kept, Joined}
use Rattle.words.specs.declared.Break.{Break}
use Rattle.theory.specs.Stretches.CutSteps.{is_beside_separator, unless_beside}
use Rattle.theory.specs.Stretches.Cuts.{breaks_among}
use Rattle.fates.specs.Entries.{fate_entries, break_entries, entries_of_breaks}
use Rattle.fates.specs.Fates.{cut_entries, WriteRoom, BreakWritten}

-- ---- one break

abbrev pub five : List ℕ → (at x y z u v : ℕ) → List ℕ
five buffer at x y z u v = set (set (set (set (set buffer at x) (at + 1) y) (at + 2) z) (at + 3) u) (at + 4) v

five-stored : (buffer : List ℕ) (at x y z u v : ℕ) → five buffer at x y z u v ≡ sets buffer at (x ∷ y ∷ z ∷ u ∷ v ∷ [])
five-stored buffer at x y z u v = rw (add-one at, add-two at, add-three at, add-four at)

pub kept-stored : (buffer : List ℕ) (at : ℕ) (k : Break) (a b : ℕ) → k.fate ≡ Kept a b
    → five buffer at k.place k.begun k.border a b ≡ sets buffer at (break_entries k)
kept-stored buffer at k a b e = rw e (five-stored buffer at k.place k.begun k.border a b)

pub joined-stored : (buffer : List ℕ) (at : ℕ) (k : Break) (s : ℕ) → k.fate ≡ Joined s
    → five buffer at k.place k.begun k.border 256 s ≡ sets buffer at (break_entries k)
joined-stored buffer at k s e = rw e (five-stored buffer at k.place k.begun k.border 256 s)

two-entries : (f : Fate) → length (fate_entries f) ≡ 2
two-entries (Kept a b) = refl
two-entries (Joined s) = refl

pub five-entries : (b : Break) → length (break_entries b) ≡ 5
five-entries b = rw (two-entries b.fate)

-- ---- all breaks

pub length-entries : (bs : List Break) → length (entries_of_breaks bs) ≡ 5 * length bs
length-entries = grouped-length break_entries 5 five-entries

-- ---- a cut

module _ (w buffer : List ℕ) (b : Break) (at : ℕ) where
  no-entries : is_beside_separator w b.place ≡ true → cut_entries w b ≡ []
  unfolding breaks_among flatten
  no-entries e = ap (λ (t : Bool). entries_of_breaks (unless_beside t b [])) e

  its-entries : is_beside_separator w b.place ≡ false → cut_entries w b ≡ break_entries b
  unfolding breaks_among flatten
  its-entries e = ap (λ (t : Bool). entries_of_breaks (unless_beside t b [])) e ∙ append-nil (break_entries b)

  pub no-break-written : is_beside_separator w b.place ≡ true → BreakWritten w b buffer at at buffer
  no-break-written e = record { next = rw (no-entries e) (omega arith); stored = rw (no-entries e) }

  pub break-room : is_beside_separator w b.place ≡ false → WriteRoom w b buffer at → at + 5 ≤ length buffer
  break-room e r = omega (arith, r, ap length (its-entries e), five-entries b)

  -- c is the break that was made of it
  pub break-written : {c : Break} {buffer' : List ℕ} → is_beside_separator w b.place ≡ false → c ≡ b → buffer' ≡ sets buffer at (break_entries c)
      → BreakWritten w b buffer at (at + 5) buffer'
  break-written e m z = record { next = rw (its-entries e, five-entries b); stored = rw (its-entries e) (rw m at z) }
