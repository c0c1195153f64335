-- The trailing zeros of the exclusive or of two numbers tell how many of their leading bytes are equal (zeros-common): below the lowest bit that
-- differs all bits are equal, and that bit lies in the first byte that differs. Stated over the number of bytes.
use mathlib.Core.Path.{◌≡◌, refl, ap, sym, ◌∙◌}
use mathlib.Core.Bool.{Bool, true, false}
use mathlib.Core.List.{List, [], ◌∷◌}
use Prim.Native.Nat.{ℕ, zero, suc, ◌+◌, ◌*◌, ◌/◌, ◌%◌, ◌^◌, ◌<◌}
use native.Mathlib.Nat.{zero-add, suc-add, mul_comm, div-one, pow-suc, div-div-eq-div-mul}
use native.Mathlib.Omega.{arith}
use lib.Arith.{mod-mul}
use lib.Pow.{pow_pos}
use lib.Count.{count_trailing_zeros, under}
use lib.Bits.{bit_xor, xor_self, xor_shr, xor_mod, xor_add_and, and_le_l, and_le_r}
use Rattle.words.specs.Words.{common_length_of}
use Rattle.theory.specs.Orders.Decisions.{Decides, holds, fails, eqb-test}

-- ---- trailing zeros of j + k bits: they end among the j lowest, or these are all zero and the count goes on above them

data Zeros (j k n : ℕ) : ℕ → Type 0 where
  low : {t : ℕ} → t < j → ¬ (n % 2 ^ j ≡ 0) → Zeros j k n t
  above : n % 2 ^ j ≡ 0 → Zeros j k n (j + count_trailing_zeros k (n / 2 ^ j))

-- one bit more below
zeros-bit : (j k n d : ℕ) {t : ℕ} → n % 2 ≡ d → Zeros j k (n / 2) t → Zeros (suc j) k n (under d t)
zeros-bit j k n d e z = go d e z (rw (pow-suc 2 j) (mod-mul n (pow_pos j) (omega arith)))
  where
    halved : n / 2 / 2 ^ j ≡ n / 2 ^ suc j
    halved = div-div-eq-div-mul n 2 (2 ^ j) ∙ ap (λ (m : ℕ). n / m) (mul_comm 2 (2 ^ j) ∙ sym (pow-suc 2 j))

    go : (d : ℕ) {t : ℕ} → n % 2 ≡ d → Zeros j k (n / 2) t → n % 2 ^ suc j ≡ n / 2 % 2 ^ j * 2 + n % 2 → Zeros (suc j) k n (under d t)
    go (suc d) e z split = low {t = 0} (omega arith) (λ none. absurd (omega arith))
    go zero {t} e (low h some) split = low {t = suc t} (omega arith) (λ none. some (omega arith))
    go zero e (above none) split =
        let on : Zeros (suc j) k n (suc j + count_trailing_zeros k (n / 2 ^ suc j)) = above (omega arith) in
        rw halved (rw (suc-add j (count_trailing_zeros k (n / 2 ^ suc j))) at on)

zeros_of : (j k n : ℕ) → Zeros j k n (count_trailing_zeros (j + k) n)
unfolding count_trailing_zeros
zeros_of zero k n =
    let all : Zeros 0 k n (0 + count_trailing_zeros k (n / 1)) = above (omega arith) in
    rw (zero-add k) (rw (zero-add (count_trailing_zeros k (n / 1)), div-one n) at all)
zeros_of (suc j) k n = rw (suc-add j k) (zeros-bit j k n (n % 2) refl (zeros_of j k (n / 2)))

-- ---- two numbers by their bytes

-- the n lowest bytes of v, its digits in base 256, the lowest one first
unfoldable pub bytes_of : ℕ → ℕ → List ℕ
bytes_of zero v = []
bytes_of (suc n) v = v % 256 ∷ bytes_of n (v / 256)

xor-none : (a b : ℕ) → bit_xor a b ≡ 0 → a ≡ b
xor-none a b e = omega (arith, xor_add_and a b, and_le_l a b, and_le_r a b)

pub zeros-common : (n v w : ℕ) → count_trailing_zeros (8 * n) (bit_xor v w) / 8 ≡ common_length_of (bytes_of n v) (bytes_of n w)
unfolding count_trailing_zeros common_length_of bytes_of
zeros-common zero v w = refl
zeros-common (suc n) v w =
    rw (let e : 8 * suc n ≡ 8 + 8 * n = omega arith in e)
    (go (eqb-test (v % 256) (w % 256)) (zeros_of 8 (8 * n) (bit_xor v w)) (zeros-common n (v / 256) (w / 256)))
  where
    later : ℕ
    later = common_length_of (bytes_of n (v / 256)) (bytes_of n (w / 256))

    go : {t : Bool} {z : ℕ} → Decides (v % 256 ≡ w % 256) t → Zeros 8 (8 * n) (bit_xor v w) z
        → count_trailing_zeros (8 * n) (bit_xor (v / 256) (w / 256)) / 8 ≡ later → z / 8 ≡ elim t [ true ↦ suc later | false ↦ 0 ]
    go (holds e) (low h some) ih = absurd (some (xor_mod v w 8 ∙ rw e (xor_self (w % 256))))
    go (holds e) (above none) ih = rw (xor_shr v w 8) (omega (arith, ih))
    go (fails d) (low h some) ih = omega (arith, h)
    go (fails d) (above none) ih = absurd (d (xor-none (v % 256) (w % 256) (sym (xor_mod v w 8) ∙ none)))
