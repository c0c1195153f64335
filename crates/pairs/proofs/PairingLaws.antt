-- The loop that writes the pairs, over plain lists. What is still to come are the pairs of the ends that are left (Pairing); a turn takes one end from them.
use mathlib.Core.Path.{◌≡◌, refl, ap, sym, ◌∙◌}
use mathlib.Core.List.{List, [], ◌∷◌, ◌++◌, append_assoc, append-nil}
use Prim.Native.Nat.{ℕ, ◌+◌, ◌*◌, ◌≤◌, ◌<◌}
use native.Mathlib.Numerals.{add-one}
use native.Mathlib.Omega.{arith}
use lib.ListN.{length, take, drop, get_or, set, drop_of_length-le, take-append-drop}
use lib.Seq.{sets, length-sets, drop-cons}
use Rattle.buffers.specs.Buffers.{written}
use Rattle.buffers.proofs.BufferLaws.{kept-past}
use Rattle.buffers.proofs.GroupLaws.{stored-front, stored-behind}
use Rattle.buffers.proofs.PartLaws.{part, part-is}
use Rattle.words.specs.Separated.{separated_icfl_ends, separated_cfl_in_ends}
use Rattle.words.specs.Pairs.{ends_inside, pairs_from, separated_pairs}
use Rattle.theory.specs.Statements.{Adjacent, here, there, Part}
use Rattle.theory.specs.Places.EndsRise.{rises-inside, rises-few, rises-some}
use Rattle.theory.specs.Places.Parts.{rises-adjacent}
use Rattle.theory.specs.Stretches.Factors.{separated-icfl-ends-rise}
use Rattle.theory.proofs.Stretches.Factors.{separated-cfl-in-ends-rise}
use Rattle.theory.specs.Stretches.StrictInside.{inside-few}
use Rattle.theory.proofs.Stretches.RecordPairs.{pairs-entries, count-alone}

-- a letter alone has one anti-Lyndon factor
pub one-letter : (w : List ℕ) → length w ≡ 1 → 1 ≡ length (separated_cfl_in_ends w)
one-letter w e = let rise = separated-cfl-in-ends-rise w in omega (arith, rises-few rise, rises-some rise (omega arith))

-- a pair stored
two-stored : (buffer : List ℕ) (at end count : ℕ) → set (set buffer at end) (at + 1) count ≡ sets buffer at (end ∷ count ∷ [])
two-stored buffer at end count = rw (add-one at)

-- the pairs of i pieces are written; the next piece begins at from
pub record Pairing (w es buffer₀ buffer : List ℕ) (from i : ℕ) : Type 0 where
  pub right : es ≡ separated_icfl_ends w
  pub inside : i ≤ length es
  pub parts : {a b : ℕ} → Adjacent a b (from ∷ drop i es) → Part (separated_icfl_ends w) a b
  pub content : take (2 * i) buffer ++ pairs_from from (drop i es) (separated_cfl_in_ends w) ≡ separated_pairs w
  pub later : drop (2 * i) buffer ≡ drop (2 * i) buffer₀
  pub long : length buffer ≡ length buffer₀

pub pairing-starts : (w es buffer : List ℕ) → es ≡ separated_icfl_ends w → Pairing w es buffer buffer 0 0
unfolding separated_pairs
pairing-starts w es buffer e = record {
  right = e;
  inside = omega arith;
  parts = λ x. rw e at x;
  content = rw e refl;
  later = refl;
  long = refl;
}

module _ {w es buffer₀ buffer : List ℕ} {from i : ℕ} (g : Pairing w es buffer₀ buffer from i) where
  module _ (l : i < length es) where
    abbrev end : ℕ
    end = get_or es i 0

    next : drop i es ≡ end ∷ drop (i + 1) es
    next = drop-cons es i 0 l ∙ rw (add-one i) refl

    piece : Part (separated_icfl_ends w) from end
    piece = g.parts (rw next here)

    -- the next piece lies inside the record
    pub piece_inside : (from < end) × (end ≤ length w)
    piece_inside = ((rises-adjacent (separated-icfl-ends-rise w) piece).1, rw g.right (rises-inside (separated-icfl-ends-rise w) i))

    module _ {count : ℕ} (e : count ≡ length (separated_cfl_in_ends (part from end w))) where
      counted : count ≡ ends_inside from end (separated_cfl_in_ends w)
      counted = e ∙ (ap (λ (v : List ℕ). length (separated_cfl_in_ends v)) (part-is from end w) ∙ sym (count-alone w from end piece))

      pub count-few : count ≤ length w
      count-few = omega (arith, counted, inside-few (separated-cfl-in-ends-rise w) from end, piece_inside.1)

      pub pairing-on : 2 * i + 1 < length buffer → Pairing w es buffer₀ (set (set buffer (2 * i) end) (2 * i + 1) count) end (i + 1)
      unfolding pairs_from
      pairing-on room =
          let pair : List ℕ = end ∷ count ∷ [] in
          let z : 2 * i + 2 ≡ 2 * (i + 1) = omega arith in
          let inside : 2 * (i + 1) ≤ length buffer = omega arith in
          rw (two-stored buffer (2 * i) end count) (record {
            right = g.right;
            inside = omega arith;
            parts = λ x. g.parts (rw next (there x));
            content = rw (stored-front buffer pair (2 * i) (2 * (i + 1)) z inside, append_assoc, counted) (rw next at g.content);
            later = stored-behind buffer pair (2 * i) (2 * (i + 1)) z inside ∙ kept-past (2 * i) (2 * (i + 1)) buffer buffer₀ (omega arith) g.later;
            long = length-sets buffer (2 * i) pair ∙ g.long;
          })

  pub pairing-ends : length es ≤ i → buffer ≡ written (separated_pairs w) buffer₀
  unfolding pairs_from
  pairing-ends l =
      let all : take (2 * i) buffer ≡ separated_pairs w
      = sym (append-nil (take (2 * i) buffer)) ∙ (rw (drop_of_length-le es {i = i} l) at g.content) in
      let n : length (separated_pairs w) ≡ 2 * i = omega (arith, pairs-entries w, ap length g.right, g.inside) in
      sym (take-append-drop (2 * i) buffer) ∙ rw (all, g.later, n)
