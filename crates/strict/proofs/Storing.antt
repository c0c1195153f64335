-- The ends of the factors that are left are stored one after another: what is stored and what is left are all ends (Storing).
use mathlib.Core.Path.{◌≡◌, ap, sym, ◌∙◌}
use mathlib.Core.List.{List, [], ◌∷◌, ◌++◌, append_assoc, append-nil}
use Prim.Native.Nat.{ℕ, ◌+◌, ◌≤◌, ◌<◌}
use native.Mathlib.Numerals.{add-one}
use native.Mathlib.Omega.{arith}
use lib.ListN.{length, take, drop, get_or, set, length-set, take-append-drop}
use lib.Seq.{take-suc-set, drop-set-lt, length-take-le, get_or-append-add}
use Rattle.buffers.specs.Buffers.{written}
use Rattle.buffers.proofs.BufferLaws.{kept-past}
use Rattle.theory.specs.Places.EndsRise.{rises-few, rises-inside}
use Rattle.theory.proofs.Stretches.Factors.{separated-cfl-in-ends-rise}
use Rattle.words.specs.Separated.{separated_cfl_in_ends}

-- there are no more ends than letters, and each is inside the word
pub ends-few : (w : List ℕ) → length (separated_cfl_in_ends w) ≤ length w
ends-few w = omega (arith, rises-few (separated-cfl-in-ends-rise w))

pub ends_inside : (w : List ℕ) (i : ℕ) → get_or (separated_cfl_in_ends w) i 0 ≤ length w
ends_inside w i = rises-inside (separated-cfl-in-ends-rise w) i

-- count of all ends are stored, at the buffer's front
pub record Storing (all left buffer₀ buffer : List ℕ) (count : ℕ) : Type 0 where
  pub number : count + length left ≡ length all
  pub content : take count buffer ++ left ≡ all
  pub later : drop count buffer ≡ drop count buffer₀
  pub long : length buffer ≡ length buffer₀

module _ {all left buffer₀ buffer : List ℕ} {count : ℕ} (g : Storing all left buffer₀ buffer count) where
  module _ {end : ℕ} {left' : List ℕ} (e : left ≡ end ∷ left') (room : length all ≤ length buffer₀) where
    pub storing_room : count < length buffer
    storing_room = omega (arith, g.number, g.long, ap length e)

    pub storing-end : end ≡ get_or all count 0
    storing-end =
        let n : length (take count buffer) + 0 ≡ count = omega (arith, length-take-le count buffer (omega (arith, storing_room))) in
        let x : take count buffer ++ (end ∷ left') ≡ all = rw e at g.content in
        sym (rw n at (get_or-append-add (take count buffer) (end ∷ left') 0 0)) ∙ ap (λ (t : List ℕ). get_or t count 0) x

    pub storing-on : Storing all left' buffer₀ (set buffer count end) (count + 1)
    storing-on = record {
      number = omega (arith, g.number, ap length e);
      content = rw (add-one count, take-suc-set buffer count end storing_room, append_assoc) (rw e at g.content);
      later = drop-set-lt (count + 1) buffer count end (omega arith) ∙ kept-past count (count + 1) buffer buffer₀ (omega arith) g.later;
      long = length-set buffer count end ∙ g.long;
    }

  pub storing-ends : left ≡ [] → (count ≡ length all) × (buffer ≡ written all buffer₀)
  storing-ends e =
      let n : count ≡ length all = omega (arith, g.number, ap length e) in
      let x : take count buffer ≡ all = sym (append-nil (take count buffer)) ∙ (rw e at g.content) in
      (n, sym (take-append-drop count buffer) ∙ rw (x, g.later, n))
