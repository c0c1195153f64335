-- Decimal digits: the recursion without its bound (decimal-small, decimal-large; decimal-induct), as many last digits as there are digits
-- (decimal-digits), how many there are at most (decimal-most), and how many there are by the power of ten below (decimal-power).
use mathlib.Core.Path.{◌≡◌, refl, ap, sym, ◌∙◌}
use mathlib.Core.List.{List, [], ◌∷◌, ◌++◌}
use Prim.Native.Nat.{ℕ, zero, suc, ◌+◌, ◌*◌, ◌/◌, ◌%◌, ◌^◌, ◌≤◌, ◌<◌}
use native.Mathlib.Nat.{le_refl, pow-suc, pow-succ', one-le-pow}
use native.Mathlib.Decide.{dec_lt}
use native.Mathlib.Omega.{arith}
use lib.ListN.{length, length-append}
use borrow.Author.Tests.{lt-ltb, le-ltb}
use Rattle.text.specs.Text.{decimal_within, decimal}

within-small : (k n : ℕ) → n < 10 → decimal_within (suc k) n ≡ (48 + n) ∷ []
unfolding decimal_within
within-small k n h = rw (lt-ltb n 10 h, decimal_within)

within-large : (k n : ℕ) → 10 ≤ n → decimal_within (suc k) n ≡ decimal_within k (n / 10) ++ (48 + n % 10) ∷ []
unfolding decimal_within
within-large k n h = rw (le-ltb n 10 h, decimal_within)

-- any two bounds above the number do
within_same : (k l n : ℕ) → n < k → n < l → decimal_within k n ≡ decimal_within l n
within_same zero l n h m = absurd (omega arith)
within_same (suc k) zero n h m = absurd (omega arith)
within_same (suc k) (suc l) n h m = go (dec_lt n 10) (λ b. within_same k l (n / 10) (omega arith) (omega arith))
  where
    go : Dec (n < 10) → (10 ≤ n → decimal_within k (n / 10) ≡ decimal_within l (n / 10)) → decimal_within (suc k) n ≡ decimal_within (suc l) n
    go (yes b) next = within-small k n b ∙ sym (within-small l n b)
    go (no b) next =
        let c : 10 ≤ n = omega arith in
        within-large k n c ∙ ap (λ (t : List ℕ). t ++ (48 + n % 10) ∷ []) (next c) ∙ sym (within-large l n c)

pub decimal-small : (n : ℕ) → n < 10 → decimal n ≡ (48 + n) ∷ []
unfolding decimal
decimal-small n h = within-small n n h

pub decimal-large : (n : ℕ) → 10 ≤ n → decimal n ≡ decimal (n / 10) ++ (48 + n % 10) ∷ []
unfolding decimal
decimal-large n h =
    within-large n n h
    ∙ ap (λ (t : List ℕ). t ++ (48 + n % 10) ∷ []) (within_same n (suc (n / 10)) (n / 10) (omega arith) (omega arith))

-- what holds of one digit, and of one digit more, holds of all numbers
pub decimal-induct : (P : ℕ → List ℕ → Type 0) → ((n : ℕ) → n < 10 → P n ((48 + n) ∷ []))
    → ((n : ℕ) (ds : List ℕ) → 10 ≤ n → P (n / 10) ds → P n (ds ++ (48 + n % 10) ∷ [])) → (n : ℕ) → P n (decimal n)
decimal-induct P small large n = below (suc n) n (le_refl _)
  where
    below : (k m : ℕ) → m < k → P m (decimal m)
    below zero m h = absurd (omega arith)
    below (suc k) m h = go (dec_lt m 10) (λ b. below k (m / 10) (omega arith))
      where
        go : Dec (m < 10) → (10 ≤ m → P (m / 10) (decimal (m / 10))) → P m (decimal m)
        go (yes b) next = rw (decimal-small m b) (small m b)
        go (no b) next = let c : 10 ≤ m = omega arith in rw (decimal-large m c) (large m (decimal (m / 10)) c (next c))

pub length-large : (n : ℕ) → 10 ≤ n → length (decimal n) ≡ suc (length (decimal (n / 10)))
length-large n h = rw (decimal-large n h, length-append) (omega arith)

-- the last k digits
unfoldable pub digits : ℕ → ℕ → List ℕ
digits zero n = []
digits (suc k) n = digits k (n / 10) ++ (48 + n % 10) ∷ []

pub length_digits : (k n : ℕ) → length (digits k n) ≡ k
unfolding digits
length_digits zero n = refl
length_digits (suc k) n = rw (length-append, length_digits k (n / 10)) (omega arith)

pub decimal-digits : (n : ℕ) → decimal n ≡ digits (length (decimal n)) n
unfolding digits
decimal-digits n = decimal-induct (λ m ds. ds ≡ digits (length ds) m) small large n
  where
    small : (m : ℕ) → m < 10 → (48 + m) ∷ [] ≡ digits 1 m
    small m h = let z : m % 10 ≡ m = omega arith in rw z

    large : (m : ℕ) (ds : List ℕ) → 10 ≤ m → ds ≡ digits (length ds) (m / 10)
        → ds ++ (48 + m % 10) ∷ [] ≡ digits (length (ds ++ (48 + m % 10) ∷ [])) m
    large m ds h e =
        let z : length (ds ++ (48 + m % 10) ∷ []) ≡ suc (length ds) = rw length-append (omega arith) in
        rw z (ap (λ (t : List ℕ). t ++ (48 + m % 10) ∷ []) e)

pub decimal-most : (k n : ℕ) → n < 10 ^ suc k → length (decimal n) ≤ suc k
decimal-most zero n h = rw (decimal-small n (omega (arith, pow-suc 10 0))) (omega arith)
decimal-most (suc k) n h = go (dec_lt n 10) (λ b. decimal-most k (n / 10) (omega (arith, pow-suc 10 (suc k))))
  where
    go : Dec (n < 10) → (10 ≤ n → length (decimal (n / 10)) ≤ suc k) → length (decimal n) ≤ suc (suc k)
    go (yes b) next = rw (decimal-small n b) (omega arith)
    go (no b) next = let c : 10 ≤ n = omega arith in omega (arith, length-large n c, next c)

pub decimal-power : (k n : ℕ) → 10 ^ k ≤ n → n < 10 * 10 ^ k → length (decimal n) ≡ suc k
decimal-power zero n a b = rw (decimal-small n b) refl
decimal-power (suc k) n a b =
    let c : 10 ≤ n = omega (arith, pow-succ' k 10, one-le-pow k 10 (omega arith)) in
    omega (arith, pow-succ' k 10, length-large n c, decimal-power k (n / 10) (omega (arith, pow-succ' k 10)) (omega (arith, pow-succ' k 10)))
