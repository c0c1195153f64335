-- One turn of the judge, case by case, over plain lists. `part i j w` is the part as the code lends it.
use mathlib.Core.Path.{◌≡◌, sym, ◌∙◌}
use mathlib.Core.List.{List}
use Prim.Native.Nat.{ℕ, suc, ◌+◌, ◌-◌, ◌≤◌, ◌<◌}
use native.Mathlib.Omega.{arith}
use borrow.Author.Tests.{le-leb, lt-leb, eq-eqb, ne_eqb}
use lib.ListN.{length, get_or}
use lib.Dec.{leb}
use mathlib.Core.Bool.{true, false}
use lib.Seq.{slice, length-slice}
use Rattle.buffers.proofs.PartLaws.{part, part-is}
use Rattle.words.specs.Separated.{separator}
use Rattle.theory.specs.Scan.Scanned.{scanned-one, scanned-failing, scanned-whole}
use Rattle.theory.specs.Judging.Judge.{or_else, judged_part, judged_pair, judged_turn}
use Rattle.theory.specs.Judging.JudgeSteps.{judge-part-whole, judge-part-failing}
use Rattle.scan.specs.declared.Scan.{Scan}
use Rattle.scan.specs.State.{start_state, Resumes, Rests}
use Rattle.judging.specs.Judging.{Neighbours, Turn}

part-size : (w : List ℕ) (i j : ℕ) → i ≤ j → j ≤ length w → length (part i j w) ≡ j - i
part-size w i j a b = rw (part-is i j w) (length-slice i j w b)

module _ (w : List ℕ) (i j k : ℕ) where
  at_mark : get_or w i 0 ≡ separator → judged_turn w i j k ≡ elim (leb j (suc i)) [ true ↦ 0 | false ↦ suc i ]
  unfolding judged_turn
  at_mark e = rw (eq-eqb (get_or w i 0) separator e, judged_turn)

  at-letter : ¬ (get_or w i 0 ≡ separator)
      → judged_turn w i j k ≡ or_else (judged_part w i j) (elim (leb k j) [ true ↦ 0 | false ↦ judged_pair (slice i j w) (slice j k w) j ])
  unfolding judged_turn
  at-letter e = rw (ne_eqb (get_or w i 0) separator e, judged_turn)

module _ {w : List ℕ} {i j k : ℕ} (g : Turn w i j k) where
  module _ (e : get_or w i 0 ≡ separator) where
    pub turn-mark : j ≤ i + 1 → 0 ≡ judged_turn w i j k
    turn-mark l = sym (at_mark w i j k e ∙ rw (le-leb j (suc i) (omega arith)))

    pub turn-marks : i + 1 < j → i + 1 ≡ judged_turn w i j k
    turn-marks l = sym (at_mark w i j k e ∙ rw (lt-leb j (suc i) (omega arith)) (omega arith))

  pub turn-resumes : (s : Scan) → s ≡ start_state → Resumes (part i j w) s
  turn-resumes s e =
      let n = part-size w i j (omega (arith, g.some)) (omega (arith, g.after, g.inside)) in
      rw e (record { short = omega (arith, n, g.short, g.after, g.inside); scanned = scanned-one _ (omega (arith, n, g.some)) })

  module _ (e : ¬ (get_or w i 0 ≡ separator)) (s : Scan) (r : Rests (part i j w) s) where
    pub turn-rises : s.length < length (part i j w) → i + s.length + 1 ≡ judged_turn w i j k
    turn-rises l =
        let q : judged_part w i j ≡ i + suc s.length
        = judge-part-failing w i j (suc s.length) (rw (part-is i j w) at (scanned-failing r.scanned l (r.stops l))) in
        let z : judged_part w i j ≡ suc (i + s.length) = q ∙ omega arith in
        sym (at-letter w i j k e ∙ rw z (omega arith))

    module _ (l : length (part i j w) ≤ s.length) where
      whole : s.length ≡ length (part i j w)
      whole = omega (arith, r.scanned.inside)

      falls : judged_part w i j ≡ 0
      falls = judge-part-whole w i j (rw (part-is i j w) at (scanned-whole r.scanned whole))

      pub turn_last : k ≤ j → 0 ≡ judged_turn w i j k
      turn_last h = sym (at-letter w i j k e ∙ rw (falls, le-leb k j h))

      pub turn-neighbours : j < k → Neighbours (part i j w) (part j k w) j s
      turn-neighbours h =
          let n = part-size w i j (omega (arith, g.some)) (omega (arith, g.after, g.inside)) in
          let m = part-size w j k g.after g.inside in
          record {
            after = omega (arith, g.some);
            falling = record { short = omega (arith, n, g.short, g.after, g.inside); scanned = r.scanned; whole = whole };
            inside = omega (arith, m, g.short, g.after, g.inside);
          }

      pub turn-pair : j < k → judged_turn w i j k ≡ judged_pair (part i j w) (part j k w) j
      turn-pair h = rw (part-is i j w, part-is j k w) (at-letter w i j k e ∙ rw (falls, lt-leb k j h))
