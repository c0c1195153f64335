-- The card of calls that meet the demands and whose piece cut meets its promise: it meets its own (card-told).
use Rattle.std.specs.Prelude.{◌≡◌, ℕ}
use Rattle.std.proofs.Math.Path.{refl}
use Rattle.std.proofs.Common.{ap, sym, ◌∙◌, arith}
use mathlib.Core.List.{List, [], ◌∷◌}
use Rattle.checks.specs.Lines.{tried, Passed}
use Rattle.checks.specs.Answers.{checked_number, numbered, Says}
use Rattle.icfl.specs.Icfl.{icfl_answer, icfl_result, IcflDone}
use Rattle.batch.specs.Batch.{records_from, Progress, used_entries, cut_record, uncut, places_of, batch_of, batch_with, BatchDone}
use Rattle.batch.proofs.FoldLaws.{left, added, batch-answers, Fits, lines_of, fits_by, folded-pairs, folded-work}
use Rattle.demands.specs.Calls.{Calls}
use Rattle.demands.specs.Demand1.{Doorway}
use Rattle.demands.specs.Demands.{Demands}
use Rattle.demands.specs.Requests.{Singly, none, next}
use Rattle.demands.proofs.CardHolds.{drop-behind}
use Rattle.demands.proofs.AnswersTold.{answer-is, number-back}

module _ (d : Doorway) (c : Calls) (all : Demands d c)
    (cut : (w work pairs : List ℕ) (r : Says ℕ) (work' pairs' : List ℕ) → c.PieceCut w work pairs r work' pairs'
    → IcflDone (d.door w) w work pairs r work' pairs')
  where
    -- its answers are those of the fold, one after another
    answers-are : (p : Progress) (ws : List (List ℕ)) {answers : List (Says ℕ)} {work' left' : List ℕ} → Fits p
        → Singly c ws p.work (left p) answers work' left'
        → answers ≡ added d.door p ws
    unfolding added cut_record
    answers-are p [] l none = refl
    answers-are p (w ∷ ws) l (next {work' = work'} {left' = left'} {answers = answers} h later) =
        let is = cut w p.work (left p) _ _ _ h in
        let q = cut_record d.door p w in
        let fits : Fits q = fits_by (tried (lines_of d.door p w)) p w l in
        let n = used_entries (icfl_answer (d.door w) w p.work (left p)) in
        let rest = drop-behind p.used n p.pairs (icfl_result (d.door w) w p.work (left p)) l in
        let singly : Singly c ws q.work (left q) answers work' left' = rw rest (rw (is.answer, is.worked, is.result) at later) in
        let same : answers ≡ added d.door q ws = answers-are q ws fits singly in
        rw (is.answer, same) refl

    batch-is : (r : ℕ × List (Says ℕ)) (number : ℕ) (answers : List (Says ℕ)) → r.0 ≡ number → r.1 ≡ places_of answers
        → r ≡ batch_with number answers
    batch-is r number answers x y = λ t. (x t, y t)

    pub card-told : (bytes es work pairs : List ℕ) (r : ℕ × List (Says ℕ)) (work' pairs' : List ℕ) → c.CardCut bytes es work pairs r work' pairs'
        → BatchDone d.door bytes es work pairs r work' pairs'
    card-told bytes es work pairs r work' pairs' h =
        let told = all.first.card bytes es work pairs work' pairs' r h in
        let first = told.0.first in
        let records = records_from 0 es bytes in
        let cards = all.card bytes es work pairs work' pairs' r h in
        let are : (p : numbered r.0 ≡ Passed) → (cards p).answers ≡ added d.door (uncut work pairs) records
        = λ p. answers-are (uncut work pairs) records (omega arith) (cards p).singly in
        record {
          answer = answer-is _ first r _ (λ number. batch_with number [])
              (λ number e. batch-is r number [] (sym (number-back r.0) ∙ ap checked_number e) (told.3 number e))
              (λ p. batch-is r 0 (batch_of d.door bytes es work pairs).answers (sym (number-back r.0) ∙ ap checked_number p)
              ((cards p).places ∙ ap places_of (are p ∙ sym (batch-answers d.door bytes es work pairs))));
          result = answer-is _ first pairs' _ (λ number. pairs) told.1
              (λ p. (rw (are p) at (cards p).left.result) ∙ sym (folded-pairs d.door (uncut work pairs) records (omega arith)));
          worked = answer-is _ first work' _ (λ number. work) told.2
              (λ p. (rw (are p) at (cards p).left.zeros) ∙ sym (folded-work d.door (uncut work pairs) records));
        }
