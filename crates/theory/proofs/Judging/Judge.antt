-- The judge of a list of ends, as a function that computes: 0, or how many letters tell that these are not the ends of the record (judged_from), and what its answer
-- says of a part (part-judged) and of two neighbours (pair-judged). Part by part: does it fall; then, beside the next one: their first difference, then the border.
-- Of all parts: Verdicts.
use Rattle.std.specs.Prelude.{refl, ◌⊎◌, Bool, true, false, length, get_or, leb, ltb}
use Rattle.std.proofs.Common.{ap, inl, inr, arith}
use mathlib.Core.List.{List}
use Prim.Native.Nat.{ℕ, zero, suc, ◌+◌, ◌≤◌, ◌<◌}
use Rattle.std.proofs.Math.Seq.{slice, length-slice}
use Rattle.words.specs.Words.{◌≪◌, ◌⊑◌, InverseLyndon, common_length_of}
use Rattle.theory.specs.Orders.CommonLength.{common-agree, common-sym}
use Rattle.words.specs.Factorizations.{cfl_in}
use Rattle.theory.specs.Statements.{BelowByBorders}
use Rattle.theory.specs.Orders.PrefixLaws.{⊑-whole}
use Rattle.theory.specs.Orders.Decisions.{Decides, holds, fails, leb-test}
use Rattle.theory.specs.Judging.LastFactor.{common-differs, mismatch-common, last_word}
use Rattle.theory.proofs.Judging.LastFactor.{last-factor, last-prefix, border-criterion}
use Rattle.theory.specs.Judging.Faults.{PairFault, shares, exceeds, begins}
use Rattle.theory.specs.Judging.Judge.{Judged, faulty, judged_by, judged_pair, sound}

fault : {F : ℕ → Type 0} {P : Type 0} (q : ℕ) → 0 < q → F q → Judged F P q
fault zero l x = absurd (omega arith)
fault (suc q) l x = faulty x

-- ---- two neighbours

module _ (w : List ℕ) (i j k : ℕ) (ij : i < j) (jk : j < k) (kn : k ≤ length w) where
  pub pair-judged : InverseLyndon (slice i j w) → Judged (PairFault w i j k) (BelowByBorders (slice i j w) (slice j k w)) (judged_pair (slice i j w) (slice j k w) j)
  unfolding judged_by
  pair-judged word = whole (leb-test (length m) l)
    where
      m : List ℕ
      m = slice i j w

      n : List ℕ
      n = slice j k w

      l : ℕ
      l = common_length_of m n

      z : List ℕ
      z = last_word (cfl_in m)

      on : z ⊑ m
      on = last-prefix (last-factor m word.nonempty) word

      Says : ℕ → Type 0
      Says q = Judged (PairFault w i j k) (BelowByBorders m n) q

      border : {t u : Bool} → m ≪ n → Decides (length m ≤ length z) t → Decides (length z ≤ l) u → Says (elim t [ true ↦ 0 | false ↦ elim u [ true ↦ j + suc l | false ↦ 0 ] ])
      border h (holds a) d = sound (h, (border-criterion m n word).1 (inl (⊑-whole on a)))
      border h (fails a) (fails b) = sound (h, (border-criterion m n word).1 (inr (omega arith)))
      border h (fails a) (holds b) = fault (j + suc l) (omega arith) (begins l refl ((mismatch-common m n).0 h) (λ e. a (omega (arith, ap length e))) b)

      less-or : {t : Bool} → l < length m → l < length n → Decides (suc (get_or m l 0) ≤ get_or n l 0) t
          → Says (elim t [ true ↦ elim (leb (length m) (length z)) [ true ↦ 0 | false ↦ elim (leb (length z) l) [ true ↦ j + suc l | false ↦ 0 ] ] | false ↦ j + suc l ])
      less-or a b (holds c) = border ((mismatch-common m n).1 (record { left = a; right = b; below = c })) (leb-test (length m) (length z)) (leb-test (length z) l)
      less-or a b (fails c) = go (common-differs m n a b)
        where
          go : (m ≪ n) ⊎ (n ≪ m) → Says (j + suc l)
          go (inl h) = absurd (c ((mismatch-common m n).0 h).below)
          go (inr h) = fault (j + suc l) (omega arith) (exceeds l refl (rw (common-sym n m) at ((mismatch-common n m).0 h)))

      next : {t : Bool} → l < length m → Decides (length n ≤ l) t
          → Says (elim t [
            | true ↦ j + l
            | false ↦ elim (ltb (get_or m l 0) (get_or n l 0)) [
              | true ↦ elim (leb (length m) (length z)) [ true ↦ 0 | false ↦ elim (leb (length z) l) [ true ↦ j + suc l | false ↦ 0 ] ]
              | false ↦ j + suc l
            ]
          ])
      next a (holds b) = fault (j + l) (omega arith) (shares l refl (inr (omega (arith, (common-agree m n).matched.right, length-slice j k w kn))))
      next a (fails b) = less-or a (omega arith) (leb-test (suc (get_or m l 0)) (get_or n l 0))

      whole : {t : Bool} → Decides (length m ≤ l) t
          → Says (elim t [
            | true ↦ j + l
            | false ↦ elim (leb (length n) l) [
              | true ↦ j + l
              | false ↦ elim (ltb (get_or m l 0) (get_or n l 0)) [
                | true ↦ elim (leb (length m) (length z)) [ true ↦ 0 | false ↦ elim (leb (length z) l) [ true ↦ j + suc l | false ↦ 0 ] ]
                | false ↦ j + suc l
              ]
            ]
          ])
      whole (holds a) = fault (j + l) (omega arith) (shares l refl (inl (omega (arith, (common-agree m n).matched.left, length-slice i j w (omega arith)))))
      whole (fails a) = next (omega arith) (leb-test (length n) l)
