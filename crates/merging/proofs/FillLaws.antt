-- The turns of the loop that writes the Lyndon table from its last entry on (Filling).
use mathlib.Core.Path.{◌≡◌, refl, sym, ◌∙◌}
use mathlib.Core.List.{List}
use Prim.Native.Nat.{ℕ, suc, ◌+◌, ◌-◌, ◌≤◌, ◌<◌}
use native.Mathlib.Nat.{le_refl}
use native.Mathlib.Omega.{arith}
use lib.ListN.{length, drop, get_or, set, length-append, length-drop, take-append-drop, get_or-append}
use lib.Seq.{drop_at}
use Rattle.buffers.specs.Buffers.{written}
use Rattle.buffers.proofs.BufferLaws.{FilledFrom, filled-store, filled-read}
use Rattle.words.specs.Separated.{UpToSeparator, separated_table}
use Rattle.theory.specs.Stretches.TableEntries.{separated-table-length}
use Rattle.merging.specs.Steps.{TableRoom, NextKnown}
use Rattle.merging.proofs.EntryLaws.{table-end, entry_at, entry-fits}

-- the buffer with the table written
abbrev tabled : List ℕ → List ℕ → List ℕ
tabled w out₀ = written (separated_table w) out₀

-- where the loop stands: the table is written from i on, and next is the entry at i
pub record Filling (w out₀ out : List ℕ) (i next : ℕ) : Type 0 where
  pub letters : UpToSeparator w
  pub upto : i ≤ length w
  pub entry : next ≡ get_or (separated_table w) i 0
  pub filled : FilledFrom (tabled w out₀) out₀ out i

module _ {w out₀ : List ℕ} (f : TableRoom w out₀) where
  tabled-length : length (tabled w out₀) ≡ length out₀
  tabled-length = simp (length-append, length-drop, separated-table-length) (omega (arith, f.room))

  tabled-at : (k : ℕ) → k < length w → get_or (tabled w out₀) k 0 ≡ get_or (separated_table w) k 0
  tabled-at k l = get_or-append (separated_table w) (drop (length (separated_table w)) out₀) 0 k (rw (separated-table-length w) l)

  pub fill_begins : UpToSeparator w → Filling w out₀ out₀ (length w) 0
  fill_begins b =
      let n : length (separated_table w) ≡ length w = separated-table-length w in
      record {
        letters = b;
        upto = omega arith;
        entry = sym (table-end w (length w) (le_refl _));
        filled = record {
          content = rw (n, drop_at (separated_table w) (drop (length w) out₀) (length w) n) (sym (take-append-drop (length w) out₀));
          same = refl;
        };
      }

  module _ {out : List ℕ} {i next : ℕ} (g : Filling w out₀ out i next) (p : 0 < i) where
    pub fill-asks : NextKnown w out (i - 1) next
    fill-asks = record {
      after = record {
        letters = g.letters;
        inside = omega (arith, g.upto);
        room = omega (arith, f.room, g.filled.same);
        entries = λ k a b. filled-read k (omega (arith, f.room, g.upto)) (omega arith) g.filled ∙ tabled-at k b;
      };
      entry = let s : i - 1 + 1 ≡ i = omega arith in rw s g.entry;
    }

    module _ {n : ℕ} (e : n ≡ get_or (separated_table w) (i - 1) 0) where
      -- an entry is at most the length
      pub fill-short : n ≤ length w
      fill-short =
          let l : i - 1 < length w = omega (arith, g.upto) in
          omega (arith, entry-fits (entry_at w g.letters (i - 1) l) l)

      pub fill-turn : Filling w out₀ (set out (i - 1) n) (i - 1) n
      fill-turn =
          let s : suc (i - 1) ≡ i = omega arith in
          let read : get_or (tabled w out₀) (i - 1) 0 ≡ n = tabled-at (i - 1) (omega (arith, g.upto)) ∙ sym e in
          let from : FilledFrom (tabled w out₀) out₀ out (suc (i - 1)) = rw s g.filled in
          record {
            letters = g.letters;
            upto = omega (arith, g.upto);
            entry = e;
            filled = rw read at (filled-store (omega (arith, f.room, g.upto)) (omega (arith, f.room, g.upto, tabled-length)) from);
          }

  pub fill-ends : {out : List ℕ} {i next : ℕ} → Filling w out₀ out i next → i ≡ 0 → out ≡ tabled w out₀
  fill-ends g e = rw e at g.filled.content
