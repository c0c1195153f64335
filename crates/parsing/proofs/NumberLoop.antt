-- The loop over the digits of a number, over plain lists (Digits): its begin at the first byte, and its five ways on at a later one.
use mathlib.Core.Path.{◌≡◌, ap, sym, ◌∙◌}
use mathlib.Core.Logic.{◌⊎◌, inl, inr}
use mathlib.Core.List.{List, [], ◌∷◌}
use Prim.Native.Nat.{ℕ, suc, ◌+◌, ◌*◌, ◌≤◌, ◌<◌}
use native.Mathlib.Numerals.{add-one}
use native.Mathlib.Omega.{arith}
use lib.ListN.{length, drop, get_or, drop_of_length-le}
use lib.Seq.{drop-cons}
use Rattle.text.specs.Reading.{nothing, found, most_number, digit_value, digits_on, number}
use Rattle.parsing.specs.Parsing.{NumberAt}
use Rattle.text.proofs.Readers.{digit-below, digit-above, digits-end, digits-stop, digits-zero}
use Rattle.text.proofs.Readers.{digits-large, digits_more, number-none, number-other, number-first}

-- the digits before end are worth value, and what is left says what the number is
pub record Digits (t : List ℕ) (at value end : ℕ) : Type 0 where
  pub after : at < end
  pub inside : end ≤ length t
  pub most : value ≤ most_number
  pub left : number (drop at t) ≡ digits_on value (drop end t)

pub digit-outside : (c : ℕ) → (c < 48) ⊎ (57 < c) → 9 < digit_value c
digit-outside c (inl l) = rw (← digit-below c l) (omega arith)
digit-outside c (inr l) = rw (← digit-above c (omega arith) l) (omega arith)

-- ---- the first byte

pub none_left : (t : List ℕ) (at : ℕ) → length t ≤ at → number (drop at t) ≡ nothing
none_left t at l = rw (drop_of_length-le t {i = at} l) number-none

module _ {byte : ℕ} (t : List ℕ) (at : ℕ) (l : at < length t) (b : byte ≡ get_or t at 0) where
  pub none_first : 9 < digit_value byte → number (drop at t) ≡ nothing
  none_first h = rw (drop-cons t at 0 l) (number-other _ _ (rw b at h))

  pub digits-begin : (d : ℕ) → (d ≡ digit_value byte) × (d ≤ 9) → Digits t at d (at + 1)
  digits-begin d e = let is : d ≡ digit_value (get_or t at 0) = rw b at e.0 in record {
    after = omega arith;
    inside = omega arith;
    most = omega (arith, e.1);
    left = rw (drop-cons t at 0 l, add-one at, is) (number-first (get_or t at 0) (drop (suc at) t) (rw is at e.1));
  }

-- ---- a later one

module _ {t : List ℕ} {at value end : ℕ} (g : Digits t at value end) where
  pub digits-done : length t ≤ end → NumberAt t at (record { value = value; end = length t })
  digits-done l =
      let last : length t ≡ end = omega (arith, g.inside) in
      let z : drop end t ≡ [] = drop_of_length-le t {i = end} l in
      rw last (record { is = g.left ∙ ap (digits_on value) z ∙ digits-end value ∙ ap (found value) (sym z); after = g.after; inside = g.inside })

  module _ (l : end < length t) where
    here : number (drop at t) ≡ digits_on value (get_or t end 0 ∷ drop (suc end) t)
    here = g.left ∙ ap (digits_on value) (drop-cons t end 0 l)

    pub digits-read : 9 < digit_value (get_or t end 0) → NumberAt t at (record { value = value; end = end })
    digits-read h = record {
      is = here ∙ digits-stop value (get_or t end 0) (drop (suc end) t) h ∙ ap (found value) (sym (drop-cons t end 0 l));
      after = g.after;
      inside = g.inside;
    }

    module _ (d : ℕ) (e : (d ≡ digit_value (get_or t end 0)) × (d ≤ 9)) where
      digit : digit_value (get_or t end 0) ≤ 9
      digit = omega (arith, e.0, e.1)

      pub digits-leading : value ≡ 0 → number (drop at t) ≡ nothing
      digits-leading z =
          here ∙ ap (λ (v : ℕ). digits_on v (get_or t end 0 ∷ drop (suc end) t)) z ∙ digits-zero (get_or t end 0) (drop (suc end) t) digit

      module _ (n : ¬ (value ≡ 0)) where
        pub digits_above : most_number < 10 * value + d → number (drop at t) ≡ nothing
        digits_above m = here ∙ digits-large value (get_or t end 0) (drop (suc end) t) digit n (rw e.0 at m)

        pub digits-on : 10 * value + d ≤ most_number → Digits t at (10 * value + d) (end + 1)
        digits-on m = record {
          after = omega (arith, g.after);
          inside = omega arith;
          most = m;
          left = rw (add-one end, e.0) (here ∙ digits_more value (get_or t end 0) (drop (suc end) t) digit n (rw e.0 at m));
        }
