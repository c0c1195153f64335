-- The definition's bit_length_of is the number of binary digits (bit-length-bounds), 1 to 13 for a length of 1 to 4096 (bit-length-most; bit-length-digits),
-- and what is left of 16 digits without the leading zeros (zeros-and-bits).
use mathlib.Core.Path.{◌≡◌, refl, ap, ◌∙◌}
use Prim.Native.Nat.{ℕ, zero, suc, ◌+◌, ◌-◌, ◌/◌, ◌^◌, ◌≤◌, ◌<◌}
use native.Mathlib.Nat.{add-suc, add-zero, pow-suc}
use native.Mathlib.Omega.{arith}
use lib.Count.{count_leading_zeros, leading_top}
use Rattle.words.specs.Words.{most_letters}
use Rattle.summary.specs.Summary.{bit_length_within, bit_length_of}
use Rattle.summary.specs.SummaryStatements.{Digits}

zeros-and-bits-within : (k n : ℕ) → count_leading_zeros k n + bit_length_within k n ≡ k
unfolding count_leading_zeros bit_length_within
zeros-and-bits-within zero n = refl
zeros-and-bits-within (suc k) zero = add-zero (suc k)
zeros-and-bits-within (suc k) (suc n) =
    add-suc (count_leading_zeros k (suc n / 2)) (bit_length_within k (suc n / 2))
    ∙ ap suc (zeros-and-bits-within k (suc n / 2))

pub zeros-and-bits : (n : ℕ) → count_leading_zeros 16 n + bit_length_of n ≡ 16
unfolding bit_length_of
zeros-and-bits n = zeros-and-bits-within 16 n

pub bit-length-bounds : (n : ℕ) → 0 < n → n < 2 ^ 16 → (2 ^ (bit_length_of n - 1) ≤ n) × (n < 2 ^ bit_length_of n)
bit-length-bounds n l h =
    let top = leading_top 16 n l h in
    let e : bit_length_of n ≡ suc top.0 = omega (arith, zeros-and-bits n, top.1) in
    let p : suc top.0 - 1 ≡ top.0 = omega arith in
    rw (e, p) (top.2, top.3)

half-below : (j n : ℕ) → suc n < 2 ^ suc j → suc n / 2 < 2 ^ j
half-below j n h = omega (arith, pow-suc 2 j)

few_bits : (k j n : ℕ) → n < 2 ^ j → bit_length_within k n ≤ j
unfolding bit_length_within
few_bits zero j n h = omega arith
few_bits (suc k) j zero h = omega arith
few_bits (suc k) zero (suc n) h = absurd (omega arith)
few_bits (suc k) (suc j) (suc n) h = let r = few_bits k j (suc n / 2) (half-below j n h) in omega arith

pub bit-length-most : (n : ℕ) → n ≤ most_letters → bit_length_of n ≤ 13
unfolding bit_length_of
bit-length-most n h = few_bits 16 13 n (omega arith)

pub bit-length-some : (n : ℕ) → 0 < n → 0 < bit_length_of n
unfolding bit_length_of
bit-length-some zero h = absurd (omega arith)
bit-length-some (suc n) h = omega arith

pub bit-length-digits : (n : ℕ) → 0 < n → n ≤ most_letters → Digits n (bit_length_of n)
bit-length-digits n l h =
    let b = bit-length-bounds n l (omega arith) in
    record { some = bit-length-some n l; most = bit-length-most n h; from = b.0; below = b.1 }
