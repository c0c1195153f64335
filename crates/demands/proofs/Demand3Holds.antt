-- THEOREM demand-3: the customer's third demand holds of all calls whose answers meet the promises behind a doorway that is sound.
use Rattle.std.specs.Prelude.{◌≡◌, ◌⊎◌, List, ℕ, ◌-◌, ◌≤◌, ◌<◌, min, max, length, ℤ, pos, negsuc}
use Rattle.std.proofs.Common.{ap, sym, ◌∙◌, inl, inr, arith}
use Rattle.words.specs.Words.{sign, common_within}
use Rattle.words.specs.Separated.{separated_icfl_ends, separated_cfl_in_ends}
use Rattle.words.specs.Pairs.{ends_of}
use Rattle.theory.specs.SeparatedStatements.{UnmarkedPieces, SeparatedDemand3}
use Rattle.theory.specs.Statements.{SignOf, WholePieces}
use Rattle.theory.specs.Orders.SignLaws.{sign-is}
use Rattle.theory.specs.Orders.CommonWithin.{common-within-is, common-within-same, common-within-sym, common-within-range}
use Rattle.theory.specs.Places.Parts.{rises-below}
use Rattle.theory.specs.Stretches.Factors.{separated-icfl-ends-rise}
use Rattle.theory.proofs.Stretches.RecordPairs.{pairs-ends}
use Rattle.theory.proofs.Stretches.SeparatedDemand3.{separated-demand-3}
use Rattle.checks.specs.Answers.{gives, Says}
use Rattle.checks.proofs.LineLaws.{both-pass, filled-front}
use Rattle.icfl.proofs.IcflCases.{pairs-front}
use Rattle.compare.specs.Compare.{sign_said, common_said, compare_lines, order_of}
use Rattle.compare.proofs.ComparisonLaws.{Within, within-passes}
use Rattle.demands.specs.Calls.{Calls}
use Rattle.demands.specs.Demand1.{Doorway}
use Rattle.demands.specs.Demand3.{Inside, Demand3, Given}
use Rattle.demands.specs.Meets.{Sound, Meets}

module _ (d : Doorway) (sound : Sound d) (c : Calls) (m : Meets d.door c) (w es ss : List ℕ) (compare : ℕ → ℕ → ℕ → ℕ → Says (ℤ × ℕ))
    (r : Given d.most c w es ss compare) where
  pieces_are : es ≡ separated_icfl_ends w
  pieces_are =
      let q = r.piece_cut in
      q.6 ∙ (ap ends_of (pairs-front (m.piece_cut w _ _ _ _ _ q.5)).0 ∙ pairs-ends w)

  strict-are : ss ≡ separated_cfl_in_ends w
  strict-are = let q = r.strict_cut in q.4 ∙ (filled-front (m.strict_cut w _ _ _ q.3)).0

  theory : SeparatedDemand3 w
  theory = separated-demand-3 w r.bytes

  -- inside an accepted range the comparison answers sign and number
  module _ (first end start other : ℕ) (h : Inside (length w) first end start other) where
    ordered : compare first end start other ≡ gives (order_of w first end start other)
    ordered =
        let within : Within w first end start other = record {
          inside = h.range;
          start-from = h.start-from;
          start-below = h.start-below;
          other_from = h.other_from;
          other-below = h.other-below;
        } in
        (m.comparison w first end start other _ (r.comparison first end start other)).answer
        ∙ rw (both-pass (d.door w) (compare_lines (length w) first end start other) (sound.lets-in w r.nonempty r.short)
        (within-passes w first end start other within))

    signed : sign_said (compare first end start other) ≡ sign w first end start other
    signed = ap sign_said ordered

    counted : common_said (compare first end start other) ≡ common_within w first end start other
    counted = ap common_said ordered

  -- the same two starts in the whole record
  widened : (first end start other : ℕ) → Inside (length w) first end start other → Inside (length w) 0 (length w) start other
  widened first end start other h = record {
    range = omega arith;
    start-from = omega arith;
    start-below = omega (arith, h.start-below, h.range);
    other_from = omega arith;
    other-below = omega (arith, h.other-below, h.range);
  }

  turned : (first end start other : ℕ) → Inside (length w) first end start other → Inside (length w) first end other start
  turned first end start other h = record {
    range = h.range;
    start-from = h.other_from;
    start-below = h.other-below;
    other_from = h.start-from;
    other-below = h.start-below;
  }

  module _ (first end start other : ℕ) (a : first ≤ start) (b : start < end) (p : first ≤ other) (q : other < end) (n : ¬ (start ≡ other)) where
    inside : WholePieces es first end → Inside (length w) first end start other
    inside g = record {
      range = rises-below (separated-icfl-ends-rise w) (rw pieces_are at g.1);
      start-from = a;
      start-below = b;
      other_from = p;
      other-below = q;
    }

    sign-decided : WholePieces es first end → (sign_said (compare first end start other) ≡ negsuc 0) ⊎ (sign_said (compare first end start other) ≡ pos 1)
    sign-decided g = go (sign-is w first end start other) (signed first end start other (inside g))
      where
        go : {s : ℤ} → SignOf w first end start other s → sign_said (compare first end start other) ≡ s
            → (sign_said (compare first end start other) ≡ negsuc 0) ⊎ (sign_said (compare first end start other) ≡ pos 1)
        go (SignOf.before x k) e = inl e
        go (SignOf.equal z) e = absurd (n z)
        go (SignOf.after x k) e = inr e

    same_sign : UnmarkedPieces w es first end → sign_said (compare first end start other) ≡ sign_said (compare 0 (length w) start other)
    same_sign g =
        let h = inside g.0 in
        signed first end start other h
        ∙ (theory.compatible first end start other (rw pieces_are at g) a b p q n
        ∙ sym (signed 0 (length w) start other (widened first end start other h)))

  pub demand-3 : Demand3 w es ss compare
  demand-3 = record {
    compatible = λ first end start other g a b p q n. same_sign first end start other a b p q n g;
    decided = λ first end start other g a b p q n. sign-decided first end start other a b p q n g;
    signed = λ first end start other h. rw (signed first end start other h) (sign-is w first end start other);
    shared = λ first end start other h.
        rw (counted first end start other h)
        (common-within-is w first end start other h.range h.start-from h.start-below h.other_from h.other-below);
    remainder = λ first end start other h e.
        counted first end start other h
        ∙ common-within-same w first end start other h.range h.start-from h.start-below h.other_from h.other-below e;
    either = λ first end start other h.
        counted first end start other h
        ∙ (common-within-sym w first end start other ∙ sym (counted first end other start (turned first end start other h)));
    within = λ first end start other h.
        counted first end start other h
        ∙ (common-within-range w first end start other h.range h.start-from h.start-below h.other_from h.other-below
        ∙ ap (λ (k : ℕ). min k (end - max start other)) (sym (counted 0 (length w) start other (widened first end start other h))));
    exceeds = rw pieces_are theory.exceeds;
    loses = rw pieces_are theory.loses;
    strict = rw (pieces_are, strict-are) theory.strict;
    nested = rw (pieces_are, strict-are) theory.nested;
  }
