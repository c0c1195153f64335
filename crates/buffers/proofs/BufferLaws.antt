-- What stores leave in a buffer: an entry stored from the end on (FilledFrom), and what is kept past a place (kept-past, written_over,
-- cleared-kept, cleared-twice). A fill one entry further is the kit's fill-more.
use mathlib.Core.Path.{◌≡◌, refl, ap, sym, ◌∙◌}
use mathlib.Core.List.{List, [], ◌∷◌, ◌++◌, append_assoc}
use Prim.Native.Nat.{ℕ, zero, suc, ◌+◌, ◌-◌, ◌≤◌, ◌<◌, max}
use native.Mathlib.Nat.{zero-max, max-zero, suc-max-suc}
use native.Mathlib.Omega.{arith}
use lib.ListN.{length, take, drop, get_or, set, replicate, length-set, drop_of_length-le}
use lib.Seq.{length-take-le, take-suc, drop-cons, set_at, get_or-drop, get_or-append-add, drop-append_seam}
use Rattle.buffers.specs.Buffers.{cleared, written}
use Rattle.buffers.proofs.PartLaws.{drop-to}

-- ---- what is kept past a place

pub kept-past : (n m : ℕ) (xs ys : List ℕ) → n ≤ m → drop n xs ≡ drop n ys → drop m xs ≡ drop m ys
kept-past n m xs ys l e = sym (drop-to n m xs l) ∙ ap (drop (m - n)) e ∙ drop-to n m ys l

-- written over by as much or more
pub written_over : (xs ys buffer : List ℕ) → length xs ≤ length ys → written ys (written xs buffer) ≡ written ys buffer
written_over xs ys buffer l =
    ap (λ (t : List ℕ). ys ++ t) (kept-past (length xs) (length ys) (written xs buffer) buffer l (drop-append_seam xs (drop (length xs) buffer)))

pub cleared-kept : (n : ℕ) (xs ys : List ℕ) → drop n xs ≡ drop n ys → cleared n xs ≡ cleared n ys
cleared-kept n xs ys e = ap (λ (t : List ℕ). replicate n 0 ++ t) e

-- cleared twice, it is cleared as far as the longer of the two
pub cleared-twice : (n m : ℕ) (xs : List ℕ) → cleared m (cleared n xs) ≡ cleared (max n m) xs
cleared-twice zero m xs = rw (zero-max m) refl
cleared-twice (suc n) zero xs = rw (max-zero (suc n)) refl
cleared-twice (suc n) (suc m) [] =
    let none : (k : ℕ) → drop {A = ℕ} k [] ≡ [] = λ k. drop_of_length-le [] {i = k} (omega arith) in
    rw (suc-max-suc n m) (ap (λ (t : List ℕ). 0 ∷ t) (rw (none n, none (max n m)) at (cleared-twice n m [])))
cleared-twice (suc n) (suc m) (x ∷ xs) = rw (suc-max-suc n m) (ap (λ (t : List ℕ). 0 ∷ t) (cleared-twice n m xs))

-- ---- a buffer that is filled from its end on

-- from i on the entries are those of goal, before i they are as they were
pub record FilledFrom (goal buffer₀ buffer : List ℕ) (i : ℕ) : Type 0 where
  pub content : buffer ≡ take i buffer₀ ++ drop i goal
  pub same : length buffer ≡ length buffer₀

pub filled-store : {goal buffer₀ buffer : List ℕ} {i : ℕ} → i < length buffer₀ → i < length goal → FilledFrom goal buffer₀ buffer (suc i)
    → FilledFrom goal buffer₀ (set buffer i (get_or goal i 0)) i
filled-store {goal} {buffer₀} {buffer} {i} l k g =
    let e : buffer ≡ take i buffer₀ ++ (get_or buffer₀ i 0 ∷ drop (suc i) goal) = g.content ∙ rw (take-suc buffer₀ i 0 l, append_assoc) in
    record {
      content =
          ap (λ (x : List ℕ). set x i (get_or goal i 0)) e
          ∙ set_at (take i buffer₀) (get_or buffer₀ i 0) (drop (suc i) goal) (get_or goal i 0) i (length-take-le i buffer₀ (omega arith))
          ∙ rw (drop-cons goal i 0 k);
      same = length-set buffer i (get_or goal i 0) ∙ g.same;
    }

pub filled-read : {goal buffer₀ buffer : List ℕ} {i : ℕ} (k : ℕ) → i ≤ length buffer₀ → i ≤ k → FilledFrom goal buffer₀ buffer i
    → get_or buffer k 0 ≡ get_or goal k 0
filled-read {goal} {buffer₀} {buffer} {i} k l h g =
    let n : length (take i buffer₀) + (k - i) ≡ k = omega (arith, length-take-le i buffer₀ l) in
    let m : i + (k - i) ≡ k = omega arith in
    ap (λ (x : List ℕ). get_or x k 0) g.content
    ∙ (rw n at (get_or-append-add (take i buffer₀) (drop i goal) (k - i) 0))
    ∙ get_or-drop i goal (k - i) 0
    ∙ rw m
