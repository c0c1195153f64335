-- Line 9: the turns of the loop that looks at every letter (Looked).
use mathlib.Core.Path.{◌≡◌, refl, sym, ◌∙◌}
use mathlib.Core.Bool.{Bool, true, false, ◌||◌}
use mathlib.Core.List.{List}
use Prim.Native.Nat.{ℕ, ◌+◌, ◌≤◌, ◌<◌}
use native.Mathlib.Numerals.{add-one}
use native.Mathlib.Omega.{arith}
use lib.ListN.{length, drop, get_or, drop_of_length-le}
use lib.Seq.{drop-cons}
use lib.Dec.{eqb}
use Rattle.words.specs.Separated.{separator, has_mark}

-- marked says whether one of the first i letters is the separator
pub record Looked (w : List ℕ) (marked : Bool) (i : ℕ) : Type 0 where
  pub inside : i ≤ length w
  pub same : (marked || has_mark (drop i w)) ≡ has_mark w

one_by_one : (a b c : Bool) → ((a || b) || c) ≡ (a || (b || c))
one_by_one true b c = refl
one_by_one false b c = refl

module _ {w : List ℕ} {marked : Bool} {i : ℕ} (g : Looked w marked i) where
  pub looked-on : i < length w → Looked w (marked || eqb (get_or w i 0) separator) (i + 1)
  unfolding has_mark
  looked-on l = record {
    inside = omega arith;
    same = one_by_one marked _ _ ∙ rw (add-one i) (rw (drop-cons w i 0 l) at g.same);
  }

  pub looked-at-all : length w ≤ i → marked ≡ has_mark w
  unfolding has_mark
  looked-at-all l = sym (none marked) ∙ (rw (drop_of_length-le w {i = i} l) at g.same)
    where
      none : (a : Bool) → (a || false) ≡ a
      none true = refl
      none false = refl
