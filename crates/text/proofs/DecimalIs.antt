-- THEOREM decimal-is. The bytes of `decimal n` are digits, the first is not 0 unless n is, and they are worth n: it is the number in decimal without
-- leading zeros.
use mathlib.Core.Path.{◌≡◌, refl}
use mathlib.Core.List.{List, [], ◌∷◌, ◌++◌}
use Prim.Native.Nat.{ℕ, zero, suc, ◌+◌, ◌-◌, ◌*◌, ◌/◌, ◌%◌, ◌≤◌, ◌<◌}
use native.Mathlib.Decide.{dec_lt}
use native.Mathlib.Omega.{arith}
use lib.ListN.{length, get_or, length-append, get_or-append}
use lib.Seq.{get_or_at}
use Rattle.text.specs.Text.{decimal}
use Rattle.text.proofs.Decimals.{decimal-induct}

-- what digits are worth, from the left, after digits that are worth a
unfoldable pub worth_after : ℕ → List ℕ → ℕ
worth_after a [] = a
worth_after a (b ∷ bs) = worth_after (a * 10 + (b - 48)) bs

pub record DecimalOf (n : ℕ) (bs : List ℕ) : Type 0 where
  pub some : 0 < length bs
  pub digits : (i : ℕ) → i < length bs → (48 ≤ get_or bs i 0) × (get_or bs i 0 ≤ 57)
  pub leading : 0 < n → 48 < get_or bs 0 0
  pub worth : worth_after 0 bs ≡ n

worth-last : (a : ℕ) (bs : List ℕ) (b : ℕ) → worth_after a (bs ++ b ∷ []) ≡ worth_after a bs * 10 + (b - 48)
unfolding worth_after
worth-last a [] b = refl
worth-last a (c ∷ bs) b = worth-last (a * 10 + (c - 48)) bs b

one-digit : (n : ℕ) → n < 10 → DecimalOf n ((48 + n) ∷ [])
unfolding worth_after
one-digit n h = record { some = omega arith; digits = digit; leading = λ l. omega arith; worth = omega arith }
  where
    digit : (i : ℕ) → i < 1 → (48 ≤ get_or ((48 + n) ∷ []) i 0) × (get_or ((48 + n) ∷ []) i 0 ≤ 57)
    digit zero l = (omega arith, omega arith)
    digit (suc i) l = absurd (omega arith)

more-digits : (n : ℕ) (bs : List ℕ) → 10 ≤ n → DecimalOf (n / 10) bs → DecimalOf n (bs ++ (48 + n % 10) ∷ [])
more-digits n bs h d = record {
  some = rw length-append (omega (arith, d.some));
  digits = λ i l. digit i (omega (arith, simp length-append at l)) (dec_lt i (length bs));
  leading = λ l. rw (get_or-append bs ((48 + n % 10) ∷ []) 0 0 d.some) (d.leading (omega arith));
  worth = rw (worth-last 0 bs (48 + n % 10), d.worth) (omega arith);
}
  where
    digit : (i : ℕ) → i ≤ length bs → Dec (i < length bs)
        → (48 ≤ get_or (bs ++ (48 + n % 10) ∷ []) i 0) × (get_or (bs ++ (48 + n % 10) ∷ []) i 0 ≤ 57)
    digit i l (yes b) = rw (get_or-append bs ((48 + n % 10) ∷ []) 0 i b) (d.digits i b)
    digit i l (no b) =
        let e : length bs ≡ i = omega arith in
        rw (get_or_at bs (48 + n % 10) [] 0 i e) (omega arith, omega arith)

pub decimal-is : (n : ℕ) → DecimalOf n (decimal n)
decimal-is n = decimal-induct DecimalOf one-digit more-digits n
