-- Groups of entries in a buffer, the entries of each item after those of the one before (grouped): two lists of items (grouped-append), and items of one size
-- (grouped-length). Entries stored from an entry on: what stands up to their end (stored-front) and behind it (stored-behind), before them (stored-before) and
-- from the first of them on (stored-from).
use mathlib.Core.Path.{◌≡◌, refl, ap, ◌∙◌}
use mathlib.Core.List.{List, [], ◌∷◌, ◌++◌, append_assoc, flatten}
use Prim.Native.Nat.{ℕ, ◌+◌, ◌*◌, ◌≤◌}
use native.Mathlib.Nat.{mul-suc}
use native.Mathlib.Omega.{arith}
use lib.ListN.{length, take, drop, length-append}
use lib.Seq.{sets, sets-eq, length-take-le, take-take, take-append-le, take_at, drop_at}
use Rattle.buffers.specs.Buffers.{grouped}

-- ---- items

module _ {A : Type 0} (entries : A → List ℕ) where
  pub grouped-append : (xs ys : List A) → grouped entries (xs ++ ys) ≡ grouped entries xs ++ grouped entries ys
  unfolding flatten
  grouped-append [] ys = refl
  grouped-append (x ∷ xs) ys =
      ap (λ (t : List ℕ). entries x ++ t) (grouped-append xs ys)
      ∙ rw append_assoc

  pub grouped-length : (n : ℕ) → ((x : A) → length (entries x) ≡ n) → (xs : List A) → length (grouped entries xs) ≡ n * length xs
  unfolding flatten
  grouped-length n size [] = omega arith
  grouped-length n size (x ∷ xs) =
      length-append (entries x) (grouped entries xs) ∙ rw (size x, grouped-length n size xs, mul-suc n (length xs)) (omega arith)

-- ---- entries stored

module _ (buffer vs : List ℕ) (i j : ℕ) (size : i + length vs ≡ j) (inside : j ≤ length buffer) where
  front : length (take i buffer ++ vs) ≡ j
  front = length-append (take i buffer) vs ∙ rw (length-take-le i buffer (omega arith)) size

  pub stored : sets buffer i vs ≡ (take i buffer ++ vs) ++ drop j buffer
  stored = rw size at (sets-eq vs buffer i (omega arith))

  pub stored-front : take j (sets buffer i vs) ≡ take i buffer ++ vs
  stored-front = rw stored (take_at (take i buffer ++ vs) (drop j buffer) j front)

  pub stored-behind : drop j (sets buffer i vs) ≡ drop j buffer
  stored-behind = rw stored (drop_at (take i buffer ++ vs) (drop j buffer) j front)

  pub stored-before : (n : ℕ) → n ≤ i → take n (sets buffer i vs) ≡ take n buffer
  stored-before n l =
      rw (stored, append_assoc)
      (take-append-le n (take i buffer) (vs ++ drop j buffer) (omega (arith, length-take-le i buffer (omega arith))) ∙ take-take n i buffer l)

  pub stored-from : drop i (sets buffer i vs) ≡ vs ++ drop j buffer
  stored-from = rw (stored, append_assoc) (drop_at (take i buffer) (vs ++ drop j buffer) i (length-take-le i buffer (omega arith)))
