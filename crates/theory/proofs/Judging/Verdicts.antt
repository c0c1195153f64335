-- THEOREM judge-is. What the judge answers is a Verdict on the list. Of a part only the first letter is asked whether it is a mark, and beside the next one only the
-- left part: all else that marks do shows as a letter that is larger.
use Rattle.std.specs.Prelude.{◌≡◌, ◌⊎◌, Bool, length, get_or, leb}
use Rattle.std.proofs.Common.{ap, sym, ◌∙◌, inr, arith, le_refl}
use Rattle.std.proofs.Math.Logic.{inl}
use mathlib.Core.List.{List, [], ◌∷◌}
use Rattle.std.proofs.Math.Bool.{true, false}
use Prim.Native.Nat.{ℕ, suc, ◌-◌, ◌≤◌, ◌<◌}
use Rattle.std.proofs.Math.Seq.{slice, slice_empty}
use Rattle.words.specs.Words.{InverseLyndon}
use Rattle.theory.specs.Orders.CommonLength.{common-agree}
use Rattle.theory.specs.Statements.{BelowByBorders, Adjacent, here, there, Part, end, by, Linked, none, more}
use Rattle.theory.specs.Orders.Decisions.{Decides, holds, fails, leb-test, eqb-test}
use Rattle.theory.specs.EndsStatements.{Verdict, ours, other}
use Rattle.theory.specs.Places.EndsRise.{Rises}
use Rattle.words.specs.Separated.{separator, UpToSeparator}
use Rattle.theory.specs.SeparatedStatements.{MarkOr, UnlessMark}
use Rattle.theory.specs.Stretches.Factors.{inverse-lyndon-factor}
use Rattle.theory.specs.Judging.EndsUnique.{parts_from, ours-linked}
use Rattle.theory.proofs.Judging.LastFactor.{last-factor, last-anti-lyndon}
use Rattle.theory.specs.Judging.Faults.{PairFault, shares, exceeds, begins, marks, Fault, rises-part}
use Rattle.theory.proofs.Judging.Faults.{fault-tells}
use Rattle.theory.specs.Judging.Judge.{or_else, judged_part, judged_pair, judged_turn, judged_from, Judged, sound, faulty, judged-or, judged-map, or-none, part-judged}
use Rattle.theory.proofs.Judging.Judge.{pair-judged}
use Rattle.theory.specs.Judging.Verdicts.{head, no-mark, part-kind, split}

-- a fault beside the next part: that one is no mark
next-no-mark : (w : List ℕ) (i j k : ℕ) → i < j → j < k → k ≤ length w → InverseLyndon (slice i j w) → get_or w i 0 ≤ separator → ¬ (get_or w i 0 ≡ separator)
    → {q : ℕ} → PairFault w i j k q → ¬ (slice j k w ≡ separator ∷ [])
next-no-mark w i j k ij jk kn word u n (shares l z c) e =
    n (sym (head w i j ij (omega arith)) ∙ (common-agree (slice i j w) (slice j k w)).matched.equal 0 (rw (← z) (long c)) ∙ ap (λ (t : List ℕ). get_or t 0 0) e)
  where
    long : (l ≡ j - i) ⊎ (l ≡ k - j) → 0 < l
    long (inl x) = omega arith
    long (inr x) = omega arith
next-no-mark w i j k ij jk kn word u n (exceeds l z c) e =
    let y : l ≡ 0 = omega (arith, c.left, ap length e) in
    let x : get_or (slice j k w) 0 0 < get_or (slice i j w) 0 0 = rw y at c.below in
    omega (arith, head w i j ij (omega arith), ap (λ (t : List ℕ). get_or t 0 0) e)
next-no-mark w i j k ij jk kn word u n (begins l z d c a) e =
    omega (arith, d.right, ap length e, (last-anti-lyndon (last-factor (slice i j w) word.nonempty)).nonempty)

-- ---- a turn

module _ (w es : List ℕ) (up : UpToSeparator w) (r : Rises (length w) 0 es) where
  abbrev Falls : ℕ → ℕ → Type 0
  Falls i j = MarkOr InverseLyndon (slice i j w)

  abbrev Below : ℕ → ℕ → ℕ → Type 0
  Below i j k = UnlessMark BelowByBorders (slice i j w) (slice j k w)

  module _ (i j : ℕ) (p : Part es i j) where
    ij : i < j
    ij = (rises-part r p).0

    jn : j ≤ length w
    jn = (rises-part r p).1

    alone : j ≤ suc i → get_or w i 0 ≡ separator → slice i j w ≡ separator ∷ []
    alone l e =
        let z : j ≡ suc i = omega (arith, ij) in
        split w i j ij jn ∙ ap (λ (a : ℕ). a ∷ slice (suc i) j w) e
        ∙ ap (λ (t : List ℕ). separator ∷ t) (ap (λ (n : ℕ). slice (suc i) n w) z ∙ slice_empty (suc i) w)

    mark-judged : {t : Bool} → get_or w i 0 ≡ separator → Decides (j ≤ suc i) t
        → Judged (Fault w es) (slice i j w ≡ separator ∷ []) (elim t [ true ↦ 0 | false ↦ suc i ])
    mark-judged e (holds l) = sound (alone l e)
    mark-judged e (fails l) = faulty (Fault.mark i j p (marks (omega arith) e))

    letter-judged : ¬ (get_or w i 0 ≡ separator) → Judged (Fault w es) (Falls i j) (judged_part w i j)
    letter-judged n = judged-map (λ k. inr (k, part-kind w i j ij jn (up i) n k)) (λ q x. Fault.part i j p x) (part-judged w i j ij jn)

    last-judged : Judged (Fault w es) (Falls i j) (judged_turn w i j j)
    unfolding judged_turn
    last-judged = go (eqb-test (get_or w i 0) separator) (leb-test j j)
      where
        go : {t u : Bool} → Decides (get_or w i 0 ≡ separator) t → Decides (j ≤ j) u
            → Judged (Fault w es) (Falls i j) (elim t [
              | true ↦ elim (leb j (suc i)) [ true ↦ 0 | false ↦ suc i ]
              | false ↦ or_else (judged_part w i j) (elim u [ true ↦ 0 | false ↦ judged_pair (slice i j w) (slice j j w) j ])
            ])
        go (holds e) d = judged-map (λ z. inl z) (λ q x. x) (mark-judged e (leb-test j (suc i)))
        go (fails n) (holds h) = rw (or-none (judged_part w i j)) (letter-judged n)
        go (fails n) (fails h) = absurd (h (le_refl j))

    module _ (k : ℕ) (s : Part es j k) where
      jk : j < k
      jk = (rises-part r s).0

      kn : k ≤ length w
      kn = (rises-part r s).1

      beside-judged : ¬ (get_or w i 0 ≡ separator) → Falls i j → Judged (Fault w es) (Below i j k) (judged_pair (slice i j w) (slice j k w) j)
      beside-judged n m =
          let word : InverseLyndon (slice i j w) = inverse-lyndon-factor (slice i j w) m in
          judged-map (λ b x y. b)
          (λ q x. Fault.pair i j k p s (no-mark w i j ij jn n) (next-no-mark w i j k ij jk kn word (up i) n x) x)
          (pair-judged w i j k ij jk kn word)

      turn-judged : Judged (Fault w es) (Falls i j × Below i j k) (judged_turn w i j k)
      unfolding judged_turn
      turn-judged = go (eqb-test (get_or w i 0) separator) (leb-test k j)
        where
          go : {t u : Bool} → Decides (get_or w i 0 ≡ separator) t → Decides (k ≤ j) u
              → Judged (Fault w es) (Falls i j × Below i j k) (elim t [
                | true ↦ elim (leb j (suc i)) [ true ↦ 0 | false ↦ suc i ]
                | false ↦ or_else (judged_part w i j) (elim u [ true ↦ 0 | false ↦ judged_pair (slice i j w) (slice j k w) j ])
              ])
          go (holds e) d = judged-map (λ z. (inl z, λ x y. absurd (x z))) (λ q x. x) (mark-judged e (leb-test j (suc i)))
          go (fails n) (holds h) = absurd (omega (arith, jk))
          go (fails n) (fails h) = judged-or (letter-judged n) (λ m. beside-judged n m)

  -- ---- all parts

  from-judged : (i j : ℕ) (rest : List ℕ) → ((x y : ℕ) → Adjacent x y (i ∷ j ∷ rest) → Part es x y)
      → Judged (Fault w es) (Linked (MarkOr InverseLyndon) (UnlessMark BelowByBorders) (parts_from i (j ∷ rest) w)) (judged_from w i (j ∷ rest))
  unfolding judged_from parts_from
  from-judged i j [] f = rw (or-none (judged_turn w i j j)) (judged-map (λ p. more p end none) (λ q x. x) (last-judged i j (f i j here)))
  from-judged i j (k ∷ rest) f =
      judged-map (λ q. more q.0.0 (by q.0.1) q.1) (λ q x. x)
      (judged-or (turn-judged i j (f i j here) k (f j k (there here))) (λ p. from-judged j k rest (λ x y a. f x y (there a))))

pub judge-is : (w es : List ℕ) → UpToSeparator w → Rises (length w) 0 es → Verdict w es (judged_from w 0 es)
unfolding judged_from parts_from
judge-is w [] up r = ours (sym (ours-linked w [] r none))
judge-is w (e ∷ es) up r = go (from-judged w (e ∷ es) up r 0 e es (λ x y a. a))
  where
    go : {q : ℕ} → Judged (Fault w (e ∷ es)) (Linked (MarkOr InverseLyndon) (UnlessMark BelowByBorders) (parts_from 0 (e ∷ es) w)) q → Verdict w (e ∷ es) q
    go (sound g) = ours (sym (ours-linked w (e ∷ es) r g))
    go (faulty x) = other (fault-tells x)
