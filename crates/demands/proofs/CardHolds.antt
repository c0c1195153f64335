-- THEOREM card-answered: the answers for the records of a card are those of single calls, one after another (request 105). It holds of all calls that answer
-- and whose answers meet the promises behind a door that has no line of number 4.
use Rattle.std.specs.Prelude.{◌≡◌, ℕ, ◌+◌, ◌≤◌, take, drop}
use Rattle.std.proofs.Common.{ap, sym, ◌∙◌, arith, drop_at}
use mathlib.Core.List.{List, [], ◌∷◌, ◌++◌, append_assoc, Memᴰ}
use Rattle.std.proofs.Math.ListN.{length, length-append}
use Rattle.std.proofs.Math.Seq.{take-append-add, drop-append-add, length-take-le}
use Rattle.buffers.specs.Buffers.{written}
use Rattle.checks.specs.Lines.{Door, tried, Passed}
use Rattle.checks.specs.Answers.{Says, refuses}
use Rattle.icfl.specs.Icfl.{icfl_answer, icfl_result, icfl_work}
use Rattle.icfl.proofs.IcflCases.{NoFour}
use Rattle.batch.specs.Batch.{records_from, Progress, used_entries, cut_record, cut_records, uncut, batch_of, batch_lines, BatchDone}
use Rattle.batch.specs.BatchStatements.{packed_pairs}
use Rattle.batch.proofs.FoldLaws.{left, added, batch-answers, Every, Fits, lines_of, fits_by, folded-pairs}
use Rattle.batch.proofs.BatchLaws.{batch-left, no-fours}
use Rattle.demands.specs.Calls.{Calls}
use Rattle.demands.specs.Demand1.{Total}
use Rattle.demands.specs.Requests.{Singly, none, next, CardAnswered}
use Rattle.demands.specs.Meets.{Meets}

-- a part of n entries behind the first u, and what follows it
module _ (u n : ℕ) (xs ys : List ℕ) (l : u ≤ length xs) where
  front : length (take u xs) ≡ u
  front = length-take-le u xs l

  pub drop-behind : drop (u + n) (take u xs ++ ys) ≡ drop n ys
  drop-behind = ap (λ (k : ℕ). drop (k + n) (take u xs ++ ys)) (sym front) ∙ drop-append-add (take u xs) ys n

  pub take_behind : take (u + n) (take u xs ++ ys) ≡ take u xs ++ take n ys
  take_behind = ap (λ (k : ℕ). take (k + n) (take u xs ++ ys)) (sym front) ∙ take-append-add (take u xs) ys n

  pub parts-behind : (zs es : List ℕ) → n ≤ length ys → es ≡ take (u + n) (take u xs ++ ys) ++ zs → drop u es ≡ take n ys ++ drop (u + n) es
  parts-behind zs es k e =
      let whole : es ≡ take u xs ++ (take n ys ++ zs) = e ∙ ap (λ (t : List ℕ). t ++ zs) take_behind ∙ append_assoc (take u xs) (take n ys) zs in
      let size : length (take u xs ++ take n ys) ≡ u + n = length-append (take u xs) (take n ys) ∙ omega (arith, front, length-take-le n ys k) in
      let later : drop (u + n) es ≡ zs =
      ap (drop (u + n)) (whole ∙ sym (append_assoc (take u xs) (take n ys) zs)) ∙ drop_at (take u xs ++ take n ys) zs (u + n) size
      in
      ap (drop u) whole ∙ drop_at (take u xs) (take n ys ++ zs) u front ∙ ap (λ (t : List ℕ). take n ys ++ t) (sym later)

every-member : (P : Says ℕ → Type 0) (answers : List (Says ℕ)) → Every P answers → (a : Says ℕ) → Memᴰ a answers → P a
every-member P [] h a m = elim m [ ]
every-member P (x ∷ answers) h a (Memᴰ.head e) = rw e h.0
every-member P (x ∷ answers) h a (Memᴰ.tail m) = every-member P answers h.1 a m

module _ (door : Door) (no-four : (w : List ℕ) → NoFour (door w)) (c : Calls) (m : Meets door c) (t : Total c) where
  single : (w work pairs : List ℕ) → (let lines = door w in
      (a : Says ℕ) × (a ≡ icfl_answer lines w work pairs) × c.PieceCut w work pairs a (icfl_work lines w work pairs) (icfl_result lines w work pairs))
  single w work pairs =
      let a = t.piece_cut w work pairs in
      let d = m.piece_cut w work pairs a.0 a.1 a.2 a.3 in
      (a.0, d.answer, rw (d.worked, d.result) at a.3)

  -- one more call, by what its answer says
  joined : {w work left work₁ left₁ work' left' : List ℕ} {ws : List (List ℕ)} {answers : List (Says ℕ)} (a : Says ℕ) {s : Says ℕ} → a ≡ s
      → c.PieceCut w work left a work₁ left₁ → Singly c ws work₁ (drop (used_entries s) left₁) answers work' left'
      → Singly c (w ∷ ws) work left (s ∷ answers) work' (take (used_entries s) left₁ ++ left')
  joined a e d later = rw (← e) (next d (rw (← e) at later))

  singly : (p : Progress) (ws : List (List ℕ)) → Fits p
      → Singly c ws p.work (left p) (added door p ws) (cut_records door p ws).work (drop p.used (cut_records door p ws).pairs)
  unfolding added cut_records cut_record
  singly p [] l = none
  singly p (w ∷ ws) l =
      let q = cut_record door p w in
      let result = icfl_result (door w) w p.work (left p) in
      let n = used_entries (icfl_answer (door w) w p.work (left p)) in
      let fits : Fits q = fits_by (tried (lines_of door p w)) p w l in
      let room : n ≤ length result = omega (arith, fits, length-append (take p.used p.pairs) result, length-take-le p.used p.pairs l) in
      let later : Singly c ws q.work (drop n result) (added door q ws) (cut_records door q ws).work (drop q.used (cut_records door q ws).pairs) =
      rw (drop-behind p.used n p.pairs result l) at (singly q ws fits)
      in
      let rest = written (packed_pairs ws (added door q ws)) (left q) in
      rw (parts-behind p.used n p.pairs result l rest (cut_records door q ws).pairs room (folded-pairs door q ws fits))
      (let x = single w p.work (left p) in joined x.0 x.1 x.2 later)

  pub card-answered : (bytes es work pairs work' pairs' : List ℕ) (r : ℕ × List (Says ℕ)) → BatchDone door bytes es work pairs r work' pairs'
      → tried (batch_lines es (length bytes)) ≡ Passed → CardAnswered c bytes es work pairs r work' pairs'
  card-answered bytes es work pairs work' pairs' r d p =
      let records = records_from 0 es bytes in
      record {
        answers = (batch_of door bytes es work pairs).answers;
        places = ap (λ (b : ℕ × List (Says ℕ)). b.1) (rw p at d.answer);
        singly = rw (rw p at d.worked, rw p at d.result, batch-answers door bytes es work pairs) (singly (uncut work pairs) records (omega arith));
        left = batch-left d p;
        enough = λ l. every-member (λ a. ¬ (a ≡ refuses 4)) (batch_of door bytes es work pairs).answers (no-fours door no-four bytes es work pairs p l);
      }
