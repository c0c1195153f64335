-- The loops that write text, over plain lists: digits counted (digits-counted) and written from the last one on (Spelling); numbers with a byte before each
-- (each_at) after a first one (list-first); and lines (line-length, line-wrote).
use mathlib.Core.Path.{◌≡◌, refl, sym, ◌∙◌}
use mathlib.Core.List.{List, [], ◌∷◌, ◌++◌, append-nil}
use Prim.Native.Nat.{ℕ, suc, ◌+◌, ◌-◌, ◌*◌, ◌/◌, ◌%◌, ◌^◌, ◌≤◌, ◌<◌}
use native.Mathlib.Numerals.{add-one}
use native.Mathlib.Omega.{arith}
use lib.ListN.{length, drop, get_or, set, length-set, length-append, drop_of_length-le}
use lib.Seq.{sets, drop-cons}
use Rattle.std.specs.Prelude.{Option, Some, None, IfSome, IfNone}
use Rattle.std.specs.Option.{unwrap_or}
use Rattle.text.specs.Text.{decimal, each_after, list_by, comma_list, line}
use Rattle.text.specs.Writing.{WroteAt, Wrote}
use Rattle.text.specs.declared.Page.{Page}
use Rattle.text.proofs.Stores.{sets_last, wrote_none, page-then}
use Rattle.text.proofs.Decimals.{decimal-small, decimal-power, digits, length_digits, decimal-digits}

-- ---- the number of digits

pub digits-counted : (number : ℕ) {power : ℕ} (answer : Option ℕ) → IfNone answer (number ≡ 0) → IfSome answer (λ k. 10 ^ k ≤ number)
    → IfSome answer (λ k. number < 10 * 10 ^ k) → power ≡ unwrap_or answer 0 → power + 1 ≡ length (decimal number)
digits-counted number None z a b e = rw (decimal-small number (omega (arith, z))) (omega (arith, e))
digits-counted number (Some k) z a b e = omega (arith, decimal-power k number a b, e)

-- ---- digits: those that are left, stored in the buffer as it is, make the number stored in the buffer as it was

pub record Spelling (number : ℕ) (out₀ out : List ℕ) (at place rest : ℕ) : Type 0 where
  pub after : at ≤ place
  pub stores : sets out at (digits (place - at) rest) ≡ sets out₀ at (decimal number)
  pub long : length out ≡ length out₀

pub spell-start : (number : ℕ) (out : List ℕ) (at count : ℕ) → count ≡ length (decimal number) → Spelling number out out at (at + count) number
spell-start number out at count e =
    let z : at + count - at ≡ length (decimal number) = omega arith in
    record { after = omega arith; stores = rw (z, ← decimal-digits number); long = refl }

pub spell-step : {number : ℕ} {out₀ out : List ℕ} {at place rest : ℕ} → Spelling number out₀ out at place rest → at < place
    → Spelling number out₀ (set out (place - 1) (48 + rest % 10)) at (place - 1) (rest / 10)
unfolding digits
spell-step {number} {out₀} {out} {at} {place} {rest} g l =
    let left : ℕ = place - 1 - at in
    let z : place - at ≡ suc left = omega arith in
    let i : at + left ≡ place - 1 = omega arith in
    let stored = rw (length_digits left (rest / 10), i) at (sets_last (digits left (rest / 10)) out at (48 + rest % 10)) in
    record {
      after = omega arith;
      stores = sym stored ∙ (rw z at g.stores);
      long = length-set out (place - 1) (48 + rest % 10) ∙ g.long;
    }

pub spell-end : {number : ℕ} {out₀ out : List ℕ} {at place rest : ℕ} (end : ℕ) → Spelling number out₀ out at place rest → place ≤ at
    → end ≡ at + length (decimal number) → WroteAt at (decimal number) out₀ end out
unfolding digits
spell-end {at = at} {place = place} end g l e = let z : place - at ≡ 0 = omega arith in record { place = e; content = rw z at g.stores }

-- ---- lists: none, or a first number and then the others with s and t before them in turn

pub list-none : (s t numbers out : List ℕ) (at : ℕ) → length numbers ≡ 0 → WroteAt at (list_by s t numbers) out at out
unfolding list_by
list-none s t [] out at l = wrote_none at out
list-none s t (n ∷ ns) out at l = absurd (omega arith)

pub list-first : {numbers : List ℕ} {n : ℕ} {ns : List ℕ} (s t : List ℕ) → numbers ≡ n ∷ ns → list_by s t numbers ≡ decimal n ++ each_after s t ns
unfolding list_by
list-first s t e = rw e

pub first-length : {numbers : List ℕ} {n : ℕ} {ns : List ℕ} (s t : List ℕ) → numbers ≡ n ∷ ns
    → length (list_by s t numbers) ≡ length (decimal n) + length (each_after s t ns)
first-length s t e = rw (list-first s t e, length-append)

module _ (s t : ℕ) (numbers : List ℕ) (i : ℕ) where
  pub each_at : i < length numbers
      → each_after (s ∷ []) (t ∷ []) (drop i numbers) ≡ s ∷ (decimal (get_or numbers i 0) ++ each_after (t ∷ []) (s ∷ []) (drop (i + 1) numbers))
  unfolding each_after
  each_at l = rw (add-one i, drop-cons numbers i 0 l)

  pub each-length : i < length numbers
      → length (each_after (s ∷ []) (t ∷ []) (drop i numbers))
      ≡ suc (length (decimal (get_or numbers i 0)) + length (each_after (t ∷ []) (s ∷ []) (drop (i + 1) numbers)))
  each-length l = rw (each_at l, length-append)

  pub each-end : length numbers ≤ i → each_after (s ∷ []) (t ∷ []) (drop i numbers) ≡ []
  unfolding each_after
  each-end l = rw (drop_of_length-le numbers {i = i} l)

-- ---- lines

pub list-one : (n : ℕ) → comma_list (n ∷ []) ≡ decimal n
unfolding list_by each_after
list-one n = append-nil (decimal n)

pub line-length : (key value : List ℕ) → length (line key value) ≡ length key + length value + 2
unfolding line
line-length key value = simp length-append (omega arith)

pub line-wrote : {key value : List ℕ} {p q r s t : Page} → Wrote key p q → Wrote (61 ∷ []) q r → Wrote value r s → Wrote (10 ∷ []) s t
    → Wrote (line key value) p t
unfolding line
line-wrote x y z w = page-then (page-then (page-then x y) z) w
