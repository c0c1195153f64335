-- Eight letters as a number (little-from). The bytes of the number are the letters, so equal numbers have equal letters (same-letters), and two numbers tell
-- how many letters are equal (pair-tells).
use mathlib.Core.Path.{◌≡◌, refl, ap, sym, ◌∙◌}
use mathlib.Core.List.{List, [], ◌∷◌}
use Prim.Native.Nat.{ℕ, zero, suc, ◌+◌, ◌-◌, ◌*◌, ◌/◌, ◌%◌, ◌≤◌, ◌<◌}
use native.Mathlib.Omega.{arith}
use native.Mathlib.Decide.{dec_lt}
use lib.ListN.{length, get_or, take, drop, length-take, get_or-eq_default, drop_of_length-le}
use lib.Seq.{slice, length-slice, get_or-take, get_or-drop}
use mir.Syntax.{w64}
use Rattle.std.proofs.lemmas.List.{drop-take}
use Rattle.std.specs.Int.{from_le_bytes}
use lib.Count.{count_trailing_zeros}
use lib.Bits.{bit_xor}
use Rattle.eights.specs.Eights.{little_endian, Bytes, NumberAt, PairTells}
use Rattle.eights.proofs.ZeroLaws.{bytes_of, zeros-common}

bytes-of-letters : (x : List ℕ) → Bytes x → bytes_of (length x) (little_endian x) ≡ x
unfolding bytes_of little_endian
bytes-of-letters [] b = refl
bytes-of-letters (a ∷ x) b =
    let low : (a + 256 * little_endian x) % 256 ≡ a = omega (arith, b 0) in
    let high : (a + 256 * little_endian x) / 256 ≡ little_endian x = omega (arith, b 0) in
    rw (low, high) (ap (λ (y : List ℕ). a ∷ y) (bytes-of-letters x (λ t. b (suc t))))

-- ---- letters of a longer word

bytes-slice : (f e : ℕ) (x : List ℕ) → Bytes x → Bytes (slice f e x)
bytes-slice f e x b t = rw (get_or-drop f (take e x) t 0) (go (dec_lt (f + t) e))
  where
    go : Dec (f + t < e) → get_or (take e x) (f + t) 0 < 256
    go (yes h) = rw (get_or-take e x (f + t) 0 h) (b (f + t))
    go (no h) = rw (get_or-eq_default (take e x) 0 {n = f + t} (rw (length-take e x) (omega arith))) (omega arith)

pub part_length : (l n : ℕ) (x : List ℕ) → l + n ≤ length x → length (slice l (l + n) x) ≡ n
part_length l n x h = length-slice l (l + n) x h ∙ (let e : l + n - l ≡ n = omega arith in e)

-- ---- eight letters

-- from the place i on: the letter there is the lowest byte
little-at : (x : List ℕ) (i : ℕ) → little_endian (drop i x) ≡ get_or x i 0 + 256 * little_endian (drop (suc i) x)
unfolding little_endian
little-at [] zero = refl
little-at [] (suc i) = refl
little-at (a ∷ x) zero = refl
little-at (a ∷ x) (suc i) = little-at x i

little-eight : (x : List ℕ) → length x ≡ 8 → from_le_bytes w64 x ≡ little_endian x
unfolding little_endian
little-eight x e =
    omega (
      arith,
      little-at x 0,
      little-at x 1,
      little-at x 2,
      little-at x 3,
      little-at x 4,
      little-at x 5,
      little-at x 6,
      little-at x 7,
      none,
    )
  where
    none : little_endian (drop 8 x) ≡ 0
    none = rw (drop_of_length-le x {i = 8} (omega arith)) refl

-- as the code takes them from a word
pub little-from : (x : List ℕ) (l : ℕ) → l + 8 ≤ length x → from_le_bytes w64 (take (l + 8 - l) (drop l x)) ≡ little_endian (slice l (l + 8) x)
little-from x l h =
    let n : l + 8 - l ≡ 8 = omega arith in
    rw (n, ← drop-take l 8 x) (little-eight (slice l (l + 8) x) (part_length l 8 x h))

-- ---- the n letters from l on

-- the bytes of their number are these letters
bytes-at : {n l v : ℕ} {x : List ℕ} → NumberAt n x l v → bytes_of n v ≡ slice l (l + n) x
bytes-at {n} {l} {v} {x} a =
    let e = bytes-of-letters (slice l (l + n) x) (bytes-slice l (l + n) x a.bytes) in
    rw a.number_is (rw (part_length l n x a.remain) at e)

pub same-letters : {n l v : ℕ} {x y : List ℕ} → NumberAt n x l v → NumberAt n y l v → slice l (l + n) x ≡ slice l (l + n) y
same-letters a b = sym (bytes-at a) ∙ bytes-at b

pub pair-tells : (v w : ℕ) → PairTells v w (count_trailing_zeros 64 (bit_xor v w) / 8)
pair-tells v w = record { common-is = λ x y l a b. rw (← bytes-at a, ← bytes-at b) (zeros-common 8 v w) }
