-- The judge of a list of ends, as a function that computes: 0, or how many letters tell that these are not the ends of the record (judged_from), and what its answer
-- says of a part (part-judged) and of two neighbours (pair-judged). Part by part: does it fall; then, beside the next one: their first difference, then the border.
-- Of all parts: Verdicts.
use Rattle.std.specs.Prelude.{◌≡◌, refl, Bool, true, false, length, get_or, leb, ltb, eqb}
use Rattle.std.proofs.Common.{arith}
use mathlib.Core.List.{List, [], ◌∷◌}
use Prim.Native.Nat.{ℕ, zero, suc, ◌+◌, ◌-◌, ◌≤◌, ◌<◌}
use Rattle.std.proofs.Math.Seq.{slice, length-slice}
use Rattle.words.specs.Words.{InverseLyndon, is_inverse_lyndon, common_length_of}
use Rattle.words.specs.Factorizations.{failing_length, cfl_in}
use Rattle.theory.specs.Orders.Decisions.{Decides, holds, fails}
use Rattle.theory.specs.Lyndon.WordTests.{inverse-lyndon-test}
use Rattle.theory.specs.Icfl.Failing.{failing-is}
use Rattle.words.specs.Separated.{separator}
use Rattle.theory.specs.Judging.LastFactor.{last_word}
use Rattle.theory.specs.Judging.Faults.{PartFault, rises, slice-take}

-- ---- the judge

-- the first number that is not 0
abbrev pub or_else : ℕ → ℕ → ℕ
or_else zero b = b
or_else (suc a) b = suc a

-- the part from i to j
unfoldable pub judged_part : List ℕ → ℕ → ℕ → ℕ
unfolding is_inverse_lyndon failing_length
judged_part w i j = let m : List ℕ = slice i j w in elim (is_inverse_lyndon m) [ true ↦ 0 | false ↦ i + failing_length m ]

-- a word m that falls and the next one, n, which begins at place j: l is how many letters they share, z the length of the last factor of m
unfoldable pub judged_by : List ℕ → List ℕ → ℕ → ℕ → ℕ → ℕ
judged_by m n j l z =
    elim (leb (length m) l) [
      | true ↦ j + l
      | false ↦ elim (leb (length n) l) [
        | true ↦ j + l
        | false ↦ elim (ltb (get_or m l 0) (get_or n l 0)) [
          | true ↦ elim (leb (length m) z) [ true ↦ 0 | false ↦ elim (leb z l) [ true ↦ j + suc l | false ↦ 0 ] ]
          | false ↦ j + suc l
        ]
      ]
    ]

abbrev pub judged_pair : List ℕ → List ℕ → ℕ → ℕ
judged_pair m n j = judged_by m n j (common_length_of m n) (length (last_word (cfl_in m)))

-- the first of the ends, or j
abbrev pub first_or : ℕ → List ℕ → ℕ
first_or j [] = j
first_or j (k ∷ es) = k

-- the part from i to j, and it beside the next one, from j to k; k is j where no part follows. A part that begins with a mark is the mark, and is not compared
unfoldable pub judged_turn : List ℕ → ℕ → ℕ → ℕ → ℕ
unfolding judged_part judged_by common_length_of last_word cfl_in
judged_turn w i j k =
    let two : ℕ = judged_pair (slice i j w) (slice j k w) j in
    let beside : ℕ = elim (leb k j) [ true ↦ 0 | false ↦ two ] in
    elim (eqb (get_or w i 0) separator) [
      | true ↦ elim (leb j (suc i)) [ true ↦ 0 | false ↦ suc i ]
      | false ↦ or_else (judged_part w i j) beside
    ]

-- all parts from i on
unfoldable pub judged_from : List ℕ → ℕ → List ℕ → ℕ
unfolding judged_turn
judged_from w i [] = 0
judged_from w i (j ∷ es) =
    let later : ℕ = judged_from w j es in
    or_else (judged_turn w i j (first_or j es)) later

-- ---- what each step says

pub data Judged (F : ℕ → Type 0) (P : Type 0) : ℕ → Type 0 where
  sound : P → Judged F P 0
  faulty : {q : ℕ} → F (suc q) → Judged F P (suc q)

pub judged-or : {F : ℕ → Type 0} {P Q : Type 0} {a b : ℕ} → Judged F P a → (P → Judged F Q b) → Judged F (P × Q) (or_else a b)
judged-or {F} {P} {Q} (sound p) f = go (f p)
  where
    go : {b : ℕ} → Judged F Q b → Judged F (P × Q) b
    go (sound q) = sound (p, q)
    go (faulty x) = faulty x
judged-or (faulty x) f = faulty x

pub judged-map : {F G : ℕ → Type 0} {P Q : Type 0} {a : ℕ} → (P → Q) → ((q : ℕ) → F q → G q) → Judged F P a → Judged G Q a
judged-map f g (sound p) = sound (f p)
judged-map f g (faulty {q = q} x) = faulty (g (suc q) x)

pub or-none : (a : ℕ) → or_else a 0 ≡ a
or-none zero = refl
or-none (suc a) = refl

-- ---- a part

module _ (w : List ℕ) (i j : ℕ) (ij : i < j) (jn : j ≤ length w) where
  pub part-judged : Judged (PartFault w i j) (InverseLyndon (slice i j w)) (judged_part w i j)
  unfolding judged_part
  part-judged = go (inverse-lyndon-test (slice i j w))
    where
      m : List ℕ
      m = slice i j w

      go : {t : Bool} → Decides (InverseLyndon m) t → Judged (PartFault w i j) (InverseLyndon m) (elim t [ true ↦ 0 | false ↦ i + failing_length m ])
      go (holds k) = sound k
      go (fails n) =
          let size : length m ≡ j - i = length-slice i j w jn in
          let f = failing-is m (omega arith) n in
          let x : ℕ = i + failing_length m - 1 in
          let last : i + failing_length m ≡ suc x = omega (arith, f.positive) in
          let bad-prefix : ¬ InverseLyndon (slice i (i + failing_length m) w) = rw (slice-take i j (failing_length m) w (omega (arith, f.inside)) jn) at f.fails in
          rw last (faulty (rises x (omega (arith, f.positive)) (omega (arith, f.positive, f.inside)) (rw last at bad-prefix)))
