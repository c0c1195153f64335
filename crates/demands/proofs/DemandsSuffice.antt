-- THEOREM demands-suffice: calls that meet the demands give no answer, and leave no lent buffer, but as the promises say. So the demands say as much as the
-- promises (all-demands, in DemandsHold, is the converse), and shut out every other library. The comparison is said of records of bytes, as in demand 3.
use Rattle.std.specs.Prelude.{◌≡◌, List, [], ◌++◌, ℕ, ◌*◌, length, Option, Some, None}
use Rattle.std.proofs.Math.Path.{refl, ap, sym}
use Rattle.std.proofs.Common.{◌∙◌}
use Rattle.words.specs.Separated.{UpToSeparator, separated_icfl_ends, separated_cfl_in_ends, separated_table}
use Rattle.words.specs.Pairs.{separated_pairs, ends_of}
use Rattle.theory.specs.Orders.Decisions.{true-decides, false-decides}
use Rattle.theory.specs.Lyndon.WordTests.{inverse-lyndon-test}
use Rattle.theory.specs.Icfl.BoundedExtension.{extension-not, extension-only}
use Rattle.theory.specs.Stretches.TableEntries.{separated-table-length}
use Rattle.buffers.specs.Buffers.{cleared, written}
use Rattle.checks.specs.Lines.{Line, tried, record_lines, Checked, Passed, ◌unless◌then◌}
use Rattle.checks.specs.Answers.{checked_number, numbered, gives, refuses, checked, Filled, Says}
use Rattle.checks.proofs.LineLaws.{not-both, both-passed}
use Rattle.extension.specs.Extension.{verdict_of, ExtensionFound}
use Rattle.icfl.specs.Icfl.{IcflDone}
use Rattle.icfl_breaks.specs.IcflBreaks.{BreaksDone}
use Rattle.numbers.specs.declared.SummaryReply.{SummaryReply}
use Rattle.reading.specs.Factor.{FactorAt}
use Rattle.summary.specs.Summary.{summary_of, Summarized, summary_lines}
use Rattle.numbers.specs.Numbers.{empty_reply, summary_reply, summary_numbers}
use Rattle.summary.proofs.LatestLongest.{latest-longest, latest-only}
use Rattle.summary.proofs.EndsAdmitted.{all-admitted}
use Rattle.extension.specs.declared.Extension.{Extension}
use Rattle.exports.specs.Exports.{Gives}
use Rattle.words.specs.Factorizations.{failing_length, prefix_length}
use Rattle.demands.specs.Calls.{Calls}
use Rattle.demands.specs.Demand1.{Doorway, Untouched, record_door}
use Rattle.demands.specs.Demand2.{Gave, GavePairs, GaveBoth, Demand2}
use Rattle.demands.specs.Demands.{Demands}
use Rattle.demands.specs.Meets.{Sound, record-door, Meets, summary-numbered}
use Rattle.demands.proofs.RepetitionsHold.{count-only, entries-only}
use Rattle.demands.proofs.CardTold.{card-told}
use Rattle.demands.proofs.ComparisonTold.{comparison-told}
use Rattle.demands.proofs.AnswersTold.{answer-is, work-is, number-back, says-refused}

-- calls whose comparison is asked only about records of bytes
abbrev pub of_bytes : Calls → Calls
of_bytes c = record {
  Test = c.Test;
  PieceCut = c.PieceCut;
  ReasonedCut = c.ReasonedCut;
  CardCut = c.CardCut;
  StrictCut = c.StrictCut;
  StartTable = c.StartTable;
  Repetitions = c.Repetitions;
  Comparing = λ w first end start other r. UpToSeparator w × c.Comparing w first end start other r;
  Reading = c.Reading;
  Summing = c.Summing;
}

module _ (d : Doorway) (s : Sound d) (c : Calls) (all : Demands d c) where
  -- a result is that of a record of which demand 2 speaks
  second-of : (w : List ℕ) (own : List Line) {said : Checked} → said ≡ tried (d.door w ++ own) → said ≡ Passed → Demand2 c w
  second-of w own e p =
      let door = (both-passed (d.door w) own (sym e ∙ p)).0 in
      all.second w (s.accepts w door).nonempty (s.few w door)

  filled : {lines : List Line} (n : ℕ) (vs buffer buffer' : List ℕ) (r : Says ℕ) → checked r ≡ tried lines → Untouched (checked r) buffer buffer'
      → (checked r ≡ Passed → (r ≡ gives n) × (buffer' ≡ written vs buffer)) → Filled lines n vs buffer r buffer'
  filled n vs buffer buffer' r first kept passed = record {
    answer = answer-is _ first r (gives n) refuses (says-refused r) (λ p. (passed p).0);
    result = answer-is _ first buffer' (written vs buffer) (λ number. buffer) kept (λ p. (passed p).1);
  }

  -- the test
  verdict : (w work work' : List ℕ) (r : Says (Option Extension)) → Demand2 c w → c.Test w work r work' → checked r ≡ Passed → r ≡ gives (verdict_of w)
  unfolding verdict_of
  verdict w work work' (gives None) q h p = rw (true-decides (inverse-lyndon-test w) (q.falls work work' h)) refl
  verdict w work work' (gives (Some x)) q h p =
      let e = q.fails work work' x.failing x.prefix x.border h in
      let only = extension-only w x.failing x.prefix x.border e in
      let made : ℕ → ℕ → ℕ → Says (Option Extension) = λ l a b. gives (Some (record { failing = l; prefix = a; border = b })) in
      rw (false-decides (inverse-lyndon-test w) (extension-not w x.failing x.prefix x.border e))
      (ap (λ (l : ℕ). made l x.prefix x.border) only.0 ∙ ap (λ (a : ℕ). made (failing_length w) a x.border) only.1
      ∙ ap (λ (b : ℕ). made (failing_length w) (prefix_length w) b) only.2)
  verdict w work work' (refuses n) q h p = absurd (not-both refl p)

  tested : (w work : List ℕ) (r : Says (Option Extension)) (work' : List ℕ) → c.Test w work r work' → ExtensionFound (d.door w) w work r work'
  tested w work r work' h =
      let told = all.first.test w work work' r h in
      let first = told.0.first in
      record {
        answer = answer-is _ first r (gives (verdict_of w)) refuses (says-refused r)
            (λ p. verdict w work work' r (second-of w _ first p) h p);
        buffer = answer-is _ first work' (cleared (length w) work) (λ number. work) told.1 (λ p. (second-of w _ first p).tested work work' r h p);
      }

  -- both piece cuts
  cut : (w work pairs : List ℕ) (r : Says ℕ) (work' pairs' : List ℕ) → c.PieceCut w work pairs r work' pairs'
      → IcflDone (d.door w) w work pairs r work' pairs'
  cut w work pairs r work' pairs' h =
      let told = all.first.piece_cut w work pairs work' pairs' r h in
      let first = told.0.first in
      let gave : checked r ≡ Passed → GavePairs w r work pairs work' pairs' = λ p. (second-of w _ first p).pieces work pairs work' pairs' r h p in
      let is = filled (length (separated_icfl_ends w)) (separated_pairs w) pairs pairs' r first told.1 (λ p. ((gave p).count, (gave p).entries)) in
      record { answer = is.answer; result = is.result; worked = work-is _ first (3 * length w) work told.2 (λ p. (gave p).zeros) }

  reasoned : (w work pairs breaks : List ℕ) (r : Says (ℕ × ℕ)) (work' pairs' breaks' : List ℕ) → c.ReasonedCut w work pairs breaks r work' pairs' breaks'
      → BreaksDone (d.door w) w work pairs breaks r work' pairs' breaks'
  reasoned w work pairs breaks r work' pairs' breaks' h =
      let told = all.first.reasoned_cut w work pairs breaks work' pairs' breaks' r h in
      let first = told.0.first in
      let gave : checked r ≡ Passed → GaveBoth w r work pairs breaks work' pairs' breaks'
      = λ p. (second-of w _ first p).reasons work pairs breaks work' pairs' breaks' r h p in
      record {
        answer = answer-is _ first r _ refuses (says-refused r) (λ p. (gave p).counts);
        pairs-are = answer-is _ first pairs' _ (λ number. pairs) told.1 (λ p. (gave p).pairs-are);
        breaks-are = answer-is _ first breaks' _ (λ number. breaks) told.2 (λ p. (gave p).breaks-are);
        worked = work-is _ first (3 * length w) work told.3 (λ p. (gave p).zeros);
      }

  -- the list of pairs: the reader, the summary
  read : (w ps : List ℕ) (k : ℕ) (part : List ℕ) (number : ℕ) → c.Reading w ps k part number → FactorAt (d.door w) w ps k part number
  read w ps k part number h =
      let told = all.first.reader w ps k part number h in
      let first = told.0.first in
      record {
        number_is = sym (number-back number) ∙ ap checked_number first;
        part-is = answer-is _ first part _ (λ number. []) told.1 (λ p. (all.reader w ps k part number h p).part-is);
      }

  summary-is : (w ps : List ℕ) (r : SummaryReply) → c.Summing w ps r → numbered r.refusal ≡ Passed → r ≡ summary_reply (ends_of ps)
  unfolding summary_of
  summary-is w ps r h p =
      let up = all.summary w ps r h p in
      let fit = all-admitted (d.door w) w ps (s.accepts w) (sym (all.first.summary w ps r h).0.first ∙ p) in
      let only = latest-only up.longest (latest-longest fit.rises fit.some) in
      let zero-refusal = sym (number-back r.refusal) ∙ ap checked_number p in
      λ t. record { refusal = zero-refusal t; count = up.count t; longest = only.0 t; from = only.1 t; bands = up.bands t }

  summed : (w ps : List ℕ) (r : SummaryReply) → c.Summing w ps r → Gives summary_numbers r (Summarized (d.door w) w ps)
  summed w ps r h =
      let told = all.first.summary w ps r h in
      let lines = d.door w ++ summary_lines w ps in
      let is : r ≡ summary_reply (ends_of ps) unless lines then empty_reply =
      answer-is _ told.0.first r (summary_reply (ends_of ps)) empty_reply told.1 (summary-is w ps r h) in
      (gives (summary_of (ends_of ps)) unless lines then (λ (i : ℕ). refuses i), record { answer = refl }, is ∙ sym (summary-numbered lines (ends_of ps)))

  pub demands-suffice : Meets d.door (of_bytes c)
  demands-suffice = record {
    test = tested;
    piece_cut = cut;
    reasoned_cut = reasoned;
    card = card-told d c all cut;
    strict_cut = λ w ends r ends' h.
        let told = all.first.strict_cut w ends ends' r h in
        let gave : checked r ≡ Passed → Gave (separated_cfl_in_ends w) r ends ends' = λ p. (second-of w _ told.0.first p).strict_pieces ends ends' r h p in
        filled _ _ ends ends' r told.0.first told.1 (λ p. ((gave p).count, (gave p).entries));
    start_table = λ w out r out' h.
        let told = all.first.start_table w out out' r h in
        let gave : checked r ≡ Passed → Gave (separated_table w) r out out' = λ p. (second-of w _ told.0.first p).table out out' r h p in
        filled _ _ out out' r told.0.first told.1 (λ p. ((gave p).count ∙ rw (separated-table-length w) refl, (gave p).entries));
    repetitions = λ w out r out' h.
        let told = all.first.repetitions w out out' r h in
        let listed = all.repetitions w out out' r h in
        filled _ _ out out' r told.0.first told.1 (λ p. (count-only (listed p), entries-only (listed p)));
    comparison = λ w first end start other r h.
        let said = (all.first.comparison w first end start other r h.1).first in
        record {
          answer = answer-is _ said r _ refuses (says-refused r)
              (comparison-told d s c all w first end start other r h.1 h.0);
        };
    reader = read;
    summary = summed;
  }

pub library-only : (c : Calls) → Demands record_door c → Meets record_lines (of_bytes c)
library-only c all = demands-suffice record_door record-door c all
