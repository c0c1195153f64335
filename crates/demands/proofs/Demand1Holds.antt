-- THEOREM demand-1: the customer's first demand holds of all calls whose answers meet the promises behind a doorway that is sound. What answers say by their
-- lines: filled-says, breaks-say, card-says.
use Rattle.std.specs.Prelude.{◌≡◌, refl, Bool, true, false, ◌⊎◌, ℕ, zero, suc, ◌<◌, length, drop, replicate, ltb}
use Rattle.std.proofs.Common.{ap, sym, ◌∙◌, inl, inr, arith, take_at, drop_at, ne_eqb}
use mathlib.Core.List.{List, [], ◌∷◌, ◌++◌, Memᴰ}
use Rattle.std.proofs.lemmas.List.{length-replicate}
use Rattle.words.specs.Pairs.{ends_of}
use Rattle.buffers.specs.Buffers.{cleared}
use Rattle.checks.specs.Lines.{Line, Door, tried, decided, ◌unless◌then◌, Checked, Passed, Refused}
use Rattle.checks.specs.Answers.{numbered, checked_number, Says, checked, Filled}
use Rattle.checks.proofs.LineLaws.{not-both, reading, said, zero-passes, numbered_is}
use Rattle.checks.proofs.LineLaws.{every_number, every-joined, every-weaker, among, among_first, among_second, first-listed}
use Rattle.extension.specs.Extension.{verdict_of, extension_lines}
use Rattle.icfl.specs.Icfl.{work_after}
use Rattle.icfl.proofs.IcflCases.{icfl-filled}
use Rattle.icfl_breaks.specs.IcflBreaks.{breaks_lines, BreaksDone}
use Rattle.batch.specs.Batch.{batch_of, batch_with, batch_lines, BatchDone}
use Rattle.compare.specs.Compare.{compare_lines, order_of}
use Rattle.reading.specs.Factor.{factor_lines}
use Rattle.summary.specs.Summary.{summary_lines}
use Rattle.numbers.specs.Numbers.{empty_reply, summary_reply}
use Rattle.numbers.specs.declared.SummaryReply.{SummaryReply}
use Rattle.demands.specs.Calls.{Calls}
use Rattle.demands.specs.Demand1.{Doorway, Answers, AnswersTo, Untouched, UntouchedBut4, Total, Demand1}
use Rattle.demands.specs.Meets.{Sound, Meets, summary-told}

-- which numbers a call can give is read off its lines
answers : {k : Checked} (numbers : List ℕ) (lines : List Line) → k ≡ tried lines → every_number (among numbers) lines ≡ true → every_number (ltb 0) lines ≡ true
    → Answers numbers lines k
answers {k} numbers lines z h p = record {
  first = z;
  listed = λ e y. go e (sym z ∙ y) (first-listed lines numbers h);
  positive = λ e y. above e (sym z ∙ y);
}
  where
    go : (e : ℕ) → tried lines ≡ Refused e → (tried lines ≡ Passed) ⊎ Memᴰ (checked_number (tried lines)) numbers → Memᴰ e numbers
    go e y (inl x) = absurd (not-both y x)
    go e y (inr m) = rw y at m

    above : (e : ℕ) → tried lines ≡ Refused e → 0 < e
    above zero y = absurd (not-both y (zero-passes lines p (ap checked_number y)))
    above (suc e) y = omega arith

pub filled-says : {lines : List Line} {n : ℕ} {vs buffer buffer' : List ℕ} {r : Says ℕ} → Filled lines n vs buffer r buffer' → checked r ≡ tried lines
filled-says {lines} {n} f = said n (tried lines) f.answer

pub breaks-say : {door : List Line} {w work pairs breaks work' pairs' breaks' : List ℕ} {r : Says (ℕ × ℕ)}
    → BreaksDone door w work pairs breaks r work' pairs' breaks' → checked r ≡ tried (door ++ breaks_lines w (length work) (length pairs) (length breaks))
breaks-say f = said _ (tried _) f.answer

card-number : {door : Door} {bytes es work pairs work' pairs' : List ℕ} {r : ℕ × List (Says ℕ)} → BatchDone door bytes es work pairs r work' pairs'
    → r.0 ≡ checked_number (tried (batch_lines es (length bytes)))
card-number {door} {bytes} {es} {work} {pairs} f =
    ap (λ (b : ℕ × List (Says ℕ)). b.0) f.answer
    ∙ reading (λ (b : ℕ × List (Says ℕ)). b.0) (batch_with 0 (batch_of door bytes es work pairs).answers) (λ number. batch_with number [])
    (tried (batch_lines es (length bytes)))

pub card-says : {door : Door} {bytes es work pairs work' pairs' : List ℕ} {r : ℕ × List (Says ℕ)} → BatchDone door bytes es work pairs r work' pairs'
    → numbered r.0 ≡ tried (batch_lines es (length bytes))
card-says {bytes = bytes} {es = es} f = ap numbered (card-number f) ∙ numbered_is (batch_lines es (length bytes)) refl

-- a buffer that is changed only where no line is met
untouched : {k : Checked} (lines : List Line) (buffer result : List ℕ) {buffer' : List ℕ} → k ≡ tried lines
    → buffer' ≡ result unless lines then (λ number. buffer) → Untouched k buffer buffer'
untouched lines buffer result z f e y = rw (sym z ∙ y) at f

untouched-but-4 : {k : Checked} (lines : List Line) (n : ℕ) (work : List ℕ) {work' : List ℕ} → k ≡ tried lines
    → work' ≡ cleared n work unless lines then work_after n work → UntouchedBut4 n k work work'
untouched-but-4 {k} lines n work {work'} z f = record {
  kept = λ e y h. (rw (sym z ∙ y) at f) ∙ ap (λ (t : Bool). elim t [ true ↦ cleared n work | false ↦ work ]) (ne_eqb e 4 h);
  zeros = λ y. rw (at-4 y) (take_at (replicate n 0) (drop n work) n (length-replicate n 0));
  later = λ y. rw (at-4 y) (drop_at (replicate n 0) (drop n work) n (length-replicate n 0));
}
  where
    at-4 : k ≡ Refused 4 → work' ≡ cleared n work
    at-4 y = rw (sym z ∙ y) at f

summary-number : (es : List ℕ) (k : Checked) → (decided k (summary_reply es) empty_reply).refusal ≡ checked_number k
summary-number es (Refused number) = refl
summary-number es Passed = refl

module _ (d : Doorway) (s : Sound d) (c : Calls) (m : Meets d.door c) where
  -- the numbers at the door, then the call's own
  door-answers : {k : Checked} (w numbers : List ℕ) (own : List Line) → k ≡ tried (d.door w ++ own) → every_number (among numbers) own ≡ true
      → every_number (ltb 0) own ≡ true → AnswersTo d w numbers own k
  door-answers w numbers own z h p =
      let all : List ℕ = d.numbers ++ numbers in
      answers all (d.door w ++ own) z
      (every-joined (among all) (d.door w) own (every-weaker _ _ (among_first d.numbers numbers) (d.door w) (s.listed w))
      (every-weaker _ _ (among_second d.numbers numbers) own h))
      (every-joined (ltb 0) (d.door w) own (s.positive w) p)

  -- by the number alone
  door-numbered : {e : ℕ} (w numbers : List ℕ) (own : List Line) → e ≡ checked_number (tried (d.door w ++ own)) → every_number (among numbers) own ≡ true
      → every_number (ltb 0) own ≡ true → AnswersTo d w numbers own (numbered e)
  door-numbered w numbers own z h p =
      door-answers w numbers own (ap numbered z ∙ numbered_is (d.door w ++ own) (every-joined (ltb 0) (d.door w) own (s.positive w) p)) h p

  pub demand-1 : Total c → Demand1 d c
  demand-1 t = record {
    answered = t;
    test = λ w work work' r h.
        let f = m.test w work r work' h in
        let says = said (verdict_of w) (tried (d.door w ++ extension_lines w (length work))) f.answer in
        (door-answers w _ _ says refl refl, untouched _ _ _ says f.buffer);
    piece_cut = λ w work pairs work' pairs' r h.
        let f = m.piece_cut w work pairs r work' pairs' h in
        let says = filled-says (icfl-filled f) in
        (door-answers w _ _ says refl refl, untouched _ _ _ says f.result, untouched-but-4 _ _ _ says f.worked);
    reasoned_cut = λ w work pairs breaks work' pairs' breaks' r h.
        let f = m.reasoned_cut w work pairs breaks r work' pairs' breaks' h in
        let says = breaks-say f in
        (door-answers w _ _ says refl refl, untouched _ _ _ says f.pairs-are, untouched _ _ _ says f.breaks-are, untouched-but-4 _ _ _ says f.worked);
    card = λ bytes es work pairs work' pairs' r h.
        let f = m.card bytes es work pairs r work' pairs' h in
        let says = card-says f in (
          answers _ _ says refl refl,
          untouched _ _ _ says f.result,
          untouched _ _ _ says f.worked,
          (λ e y. ap (λ (b : ℕ × List (Says ℕ)). b.1) (rw (sym says ∙ y) at f.answer)),
        );
    strict_cut = λ w ends ends' r h.
        let f = m.strict_cut w ends r ends' h in
        (door-answers w _ _ (filled-says f) refl refl, untouched _ _ _ (filled-says f) f.result);
    start_table = λ w out out' r h.
        let f = m.start_table w out r out' h in
        (door-answers w _ _ (filled-says f) refl refl, untouched _ _ _ (filled-says f) f.result);
    repetitions = λ w out out' r h.
        let f = m.repetitions w out r out' h in
        (door-answers w _ _ (filled-says f) refl refl, untouched _ _ _ (filled-says f) f.result);
    comparison = λ w first end start other r h.
        let lines = d.door w ++ compare_lines (length w) first end start other in
        door-answers w _ _ (said (order_of w first end start other) (tried lines) (m.comparison w first end start other r h).answer) refl refl;
    reader = λ w ps k part number h.
        let f = m.reader w ps k part number h in
        let told = door-numbered w (7 ∷ 8 ∷ []) (factor_lines w ps k) f.number_is refl refl in
        (told, λ e y. rw (sym told.first ∙ y) at f.part-is);
    summary = λ w ps r h.
        let f = summary-told (m.summary w ps r h) in
        let number = ap (λ (s : SummaryReply). s.refusal) f ∙ summary-number (ends_of ps) (tried (d.door w ++ summary_lines w ps)) in
        let told = door-numbered w (7 ∷ []) (summary_lines w ps) number refl refl in
        (told, λ e y. rw (sym told.first ∙ y) at f);
  }
