-- THEOREMS part-read, summed-up: what the reader gives is the part that the list marks, and what the summary gives is what paper 01 and request 101 say of that
-- list. They hold of all calls whose answers meet the promises behind a doorway that is sound.
use Rattle.std.specs.Prelude.{◌≡◌, refl, length, get_or}
use Rattle.std.proofs.Math.Path.{sym}
use Rattle.std.proofs.Common.{◌∙◌, ⊎_elim, arith, leb-false}
use mathlib.Core.List.{List, [], ◌∷◌, ◌++◌}
use Prim.Native.Nat.{ℕ, zero, suc, ◌≤◌, ◌<◌}
use Rattle.words.specs.Pairs.{ends_of}
use Rattle.theory.specs.Statements.{Adjacent, here, there}
use Rattle.theory.specs.Places.Ends.{adjacent-cases, adjacent-one}
use Rattle.theory.specs.Places.EndsRise.{Rises, done, more}
use Rattle.theory.specs.Places.EndsRise.{rises-most}
use Rattle.theory.specs.Places.Parts.{rises-adjacent}
use Rattle.checks.specs.Lines.{tried, Passed}
use Rattle.checks.specs.Answers.{numbered}
use Rattle.checks.proofs.LineLaws.{unmet, both-passed}
use Rattle.reading.specs.Factor.{factor_lines}
use Rattle.numbers.specs.declared.SummaryReply.{SummaryReply}
use Rattle.summary.specs.Summary.{summary_lines, summary_of}
use Rattle.summary.proofs.EndsAdmitted.{all-admitted}
use Rattle.summary.proofs.BitLengths.{bit-length-digits}
use Rattle.summary.proofs.LatestLongest.{latest-longest}
use Rattle.summary.proofs.BandsSum.{bands-sum}
use Rattle.numbers.specs.Numbers.{summary_reply}
use Rattle.demands.specs.Calls.{Calls}
use Rattle.demands.specs.Demand1.{Doorway, Demand1}
use Rattle.demands.specs.Requests.{PartRead, SummedUp}
use Rattle.demands.specs.Meets.{Sound, Meets, summary-told}

-- part k lies between the end before it and its own
part_at : (b : ℕ) (es : List ℕ) (k : ℕ) → k < length es → Adjacent (get_or (b ∷ es) k 0) (get_or es k 0) (b ∷ es)
part_at b [] k l = absurd (omega arith)
part_at b (e ∷ es) zero l = here
part_at b (e ∷ es) (suc k) l = there (part_at e es k (omega arith))

part-within : {n b i j : ℕ} (es : List ℕ) → Rises n b es → Adjacent i j (b ∷ es) → j ≤ n
part-within [] (done z) x = absurd (adjacent-one x)
part-within (e ∷ es) (more h r) x = ⊎_elim (λ z. omega (arith, z.1, rises-most r)) (λ y. part-within es r y) (adjacent-cases x)

module _ (d : Doorway) (s : Sound d) (c : Calls) (m : Meets d.door c) (first : Demand1 d c) where
  pub part-read : (w ps : List ℕ) (k : ℕ) (part : List ℕ) (number : ℕ) → c.Reading w ps k part number → numbered number ≡ Passed
      → PartRead w (ends_of ps) k part
  part-read w ps k part number h e =
      let none : tried (d.door w ++ factor_lines w ps k) ≡ Passed = sym (first.reader w ps k part number h).0.first ∙ e in
      let below = leb-false (length (ends_of ps)) k (unmet (factor_lines w ps k) (both-passed (d.door w) (factor_lines w ps k) none).1).1.0 in
      record { listed = part_at 0 (ends_of ps) k below; part-is = rw none at (m.reader w ps k part number h).part-is }

  pub summed-up : (w ps : List ℕ) (r : SummaryReply) → c.Summing w ps r → numbered r.refusal ≡ Passed → SummedUp (ends_of ps) r
  unfolding summary_of
  summed-up w ps r h e =
      let es : List ℕ = ends_of ps in
      let none : tried (d.door w ++ summary_lines w ps) ≡ Passed = sym (first.summary w ps r h).0.first ∙ e in
      let fit = all-admitted (d.door w) w ps (s.accepts w) none in
      let is : r ≡ summary_reply es = rw none at (summary-told (m.summary w ps r h)) in
      rw is (record {
        count = refl;
        longest = latest-longest fit.rises fit.some;
        bands = refl;
        digits = λ i j p.
            bit-length-digits _ (omega (arith, (rises-adjacent fit.rises p).1)) (omega (arith, part-within es fit.rises p, fit.letters));
        total = bands-sum (length w) es fit.rises fit.letters;
      })
