-- Of calls that meet the promises, neither the reader (own_read) nor the summary (own-summed) refuses the pairs that the piece cut wrote (request 108).
use Rattle.std.specs.Prelude.{◌≡◌, List, ◌++◌, ℕ, ◌*◌, ◌≤◌, ◌<◌, length, take}
use Rattle.std.proofs.Math.Path.{ap}
use Rattle.std.proofs.Common.{◌∙◌, arith}
use Rattle.std.proofs.lemmas.Bool.{lt-leb}
use Rattle.words.specs.Separated.{separated_icfl_ends}
use Rattle.words.specs.Pairs.{separated_pairs, ends_of}
use Rattle.theory.proofs.Stretches.RecordPairs.{pairs-ends}
use Rattle.checks.specs.Lines.{Door, tried, Passed}
use Rattle.checks.specs.Answers.{checked_number, gives}
use Rattle.checks.proofs.LineLaws.{all_pass, both-pass}
use Rattle.pairs.proofs.PairsLaws.{own-pairs}
use Rattle.icfl.proofs.IcflCases.{pairs-counted, pairs-front}
use Rattle.reading.specs.Factor.{factor_lines}
use Rattle.numbers.specs.declared.SummaryReply.{SummaryReply}
use Rattle.summary.specs.Summary.{summary_lines}
use Rattle.demands.specs.Calls.{Calls}
use Rattle.demands.specs.Meets.{Meets, summary-told}

module _ (door : Door) (w : List ℕ) (s : 1 ≤ length w) (let-in : tried (door w) ≡ Passed) where
  own-summary-passes : tried (door w ++ summary_lines w (separated_pairs w)) ≡ Passed
  own-summary-passes =
      both-pass (door w) (summary_lines w (separated_pairs w)) let-in (all_pass (summary_lines w (separated_pairs w)) (own-pairs w s, search))

  own-reader-passes : (k : ℕ) → k < length (separated_icfl_ends w) → tried (door w ++ factor_lines w (separated_pairs w) k) ≡ Passed
  own-reader-passes k h =
      let listed : k < length (ends_of (separated_pairs w)) = rw (pairs-ends w) h in
      both-pass (door w) (factor_lines w (separated_pairs w) k) let-in
      (all_pass (factor_lines w (separated_pairs w) k) (own-pairs w s, (lt-leb _ _ listed, search)))

  module _ (c : Calls) (m : Meets door c) (work pairs work' pairs' : List ℕ) (n : ℕ) (h : c.PieceCut w work pairs (gives n) work' pairs') where
    given : (take (2 * n) pairs' ≡ separated_pairs w) × (n ≡ length (separated_icfl_ends w))
    given = let d = m.piece_cut w work pairs (gives n) work' pairs' h in ((pairs-front d).0, pairs-counted d)

    pub own_read : (k : ℕ) (part : List ℕ) (number : ℕ) → c.Reading w (take (2 * n) pairs') k part number → k < n → number ≡ 0
    own_read k part number x below =
        let none : tried (door w ++ factor_lines w (take (2 * n) pairs') k) ≡ Passed = rw given.0 (own-reader-passes k (omega (arith, below, given.1))) in
        (m.reader w (take (2 * n) pairs') k part number x).number_is ∙ ap checked_number none

    pub own-summed : (r : SummaryReply) → c.Summing w (take (2 * n) pairs') r → r.refusal ≡ 0
    own-summed r x =
        let none : tried (door w ++ summary_lines w (take (2 * n) pairs')) ≡ Passed = rw given.0 own-summary-passes in
        ap (λ (t : SummaryReply). t.refusal) (rw none at (summary-told (m.summary w (take (2 * n) pairs') r x)))
