-- THEOREM fault-tells. Each way in which a list of ends fails to be Ours is a Fault, with the number of letters that tell it (Tells): whatever follows these
-- letters, the list is not that of the record.
use Rattle.std.specs.Prelude.{◌≡◌, ◌⊎◌, ℕ, suc, ◌+◌, ◌-◌, ◌≤◌, ◌<◌, length, take, drop, get_or}
use Rattle.std.proofs.Common.{ap, sym, ◌∙◌, inl, inr, arith, length-take-le, take-take, take-add, drop_at}
use mathlib.Core.List.Memᴰ
use mathlib.Core.List.{List, [], ◌∷◌, Memᴰ}
use Rattle.std.proofs.Math.Seq.{slice}
use Rattle.words.specs.Words.{InverseLyndon, common_length_of}
use Rattle.words.specs.Factorizations.{cfl_in}
use Rattle.theory.specs.Statements.{Adjacent, Part}
use Rattle.theory.specs.Places.Ends.{adjacent-right}
use Rattle.theory.specs.Places.Parts.{rises-adjacent, rises-below}
use Rattle.theory.specs.Places.EndsRise.{Rises}
use Rattle.words.specs.Separated.{separator}
use Rattle.theory.specs.Judging.LastFactor.{SmallerAt, last_word}

-- the part from i to j is not inverse Lyndon up to and with the letter at x
pub data PartFault (w : List ℕ) (i j : ℕ) : ℕ → Type 0 where
  rises : (x : ℕ) → i ≤ x → x < j → ¬ InverseLyndon (slice i (suc x) w) → PartFault w i j (suc x)

-- of m, the part from i to j, and n, the next one, from j to k, with l the number of leading letters that they share
pub data PairFault (w : List ℕ) (i j k : ℕ) : ℕ → Type 0 where
  -- they do not differ at a place that both have
  shares : (l : ℕ) → l ≡ common_length_of (slice i j w) (slice j k w) → (l ≡ j - i) ⊎ (l ≡ k - j) → PairFault w i j k (j + l)
  -- they differ at l, and n has the smaller letter
  exceeds : (l : ℕ) → l ≡ common_length_of (slice i j w) (slice j k w) → SmallerAt (slice j k w) (slice i j w) l → PairFault w i j k (j + suc l)
  -- they differ at l, m has the smaller letter, but its last factor is not the whole of m and begins n
  begins : (l : ℕ) → l ≡ common_length_of (slice i j w) (slice j k w) → SmallerAt (slice i j w) (slice j k w) l
      → ¬ (last_word (cfl_in (slice i j w)) ≡ slice i j w) → length (last_word (cfl_in (slice i j w))) ≤ l → PairFault w i j k (j + suc l)

-- the part begins with a mark and has further letters
pub data MarkFault (w : List ℕ) (i j : ℕ) : ℕ → Type 0 where
  marks : suc i < j → get_or w i 0 ≡ separator → MarkFault w i j (suc i)

pub data Fault (w es : List ℕ) (q : ℕ) : Type 0 where
  part : (i j : ℕ) → Part es i j → PartFault w i j q → Fault w es q
  mark : (i j : ℕ) → Part es i j → MarkFault w i j q → Fault w es q
  pair : (i j k : ℕ) → Part es i j → Part es j k → ¬ (slice i j w ≡ separator ∷ []) → ¬ (slice j k w ≡ separator ∷ []) → PairFault w i j k q → Fault w es q

-- ---- words that agree

pub slice_kept : (q : ℕ) (v w : List ℕ) → take q v ≡ take q w → (i j : ℕ) → j ≤ q → slice i j v ≡ slice i j w
slice_kept q v w e i j l = ap (drop i) (sym (take-take j q v l) ∙ ap (take j) e ∙ take-take j q w l)

-- the first l letters of the range from j to k
pub slice-take : (j k l : ℕ) (v : List ℕ) → j + l ≤ k → k ≤ length v → take l (slice j k v) ≡ slice j (j + l) v
slice-take j k l v a b =
    sym (drop_at (take j (take k v)) (take l (slice j k v)) j (length-take-le j (take k v) (rw (length-take-le k v b) (omega arith))))
    ∙ ap (drop j) (sym (take-add j l (take k v)) ∙ take-take (j + l) k v a)

pub rises-part : {n i j : ℕ} {es : List ℕ} → Rises n 0 es → Adjacent i j (0 ∷ es) → (i < j) × (j ≤ n)
rises-part r x = ((rises-adjacent r x).1, rises-inside-part (Memᴰ.cases_cons (adjacent-right x)) r)
  where
    rises-inside-part : {n j : ℕ} {es : List ℕ} → (j ≡ 0) ⊎ Memᴰ j es → Rises n 0 es → j ≤ n
    rises-inside-part (inl e) r = omega arith
    rises-inside-part (inr m) r = rises-below r m
