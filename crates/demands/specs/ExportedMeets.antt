-- The answers of the exported functions meet the promises of the calls behind the same door (exported-meets), and are given for all arguments
-- (exported-total).
use Rattle.std.specs.Prelude.{◌≡◌, refl, Bool, true, false, get_or, replicate, ltb, ℤ, Option}
use Rattle.std.proofs.Math.Path.{ap}
use Rattle.std.proofs.Common.{sym, ◌∙◌, arith, ne_eqb}
use mathlib.Core.List.{List, [], ◌∷◌, ◌++◌, map}
use Prim.Native.Nat.{ℕ, zero, suc, ◌-◌, ◌<◌}
use Rattle.std.proofs.Math.ListN.{length}
use Rattle.std.proofs.Math.Seq.{slice, slice_empty}
use Rattle.words.specs.Separated.{separated_icfl_ends}
use Rattle.words.specs.Pairs.{ends_of}
use Rattle.words.specs.Words.{is_inverse_lyndon}
use Rattle.words.specs.Factorizations.{failing_length, prefix_length, border_length}
use Rattle.theory.specs.Orders.Decisions.{decides-false}
use Rattle.theory.specs.Lyndon.WordTests.{inverse-lyndon-test}
use Rattle.theory.specs.Icfl.Failing.{failing-is}
use Rattle.conditions.specs.Conditions.{most_records}
use Rattle.pairs.specs.PairedList.{factor_begin}
use Rattle.checks.specs.Lines.{Line, tried, decided, ◌unless◌then◌, Checked, Passed, Refused}
use Rattle.checks.specs.Answers.{checked_number, Says, gives, refuses, checked}
use Rattle.checks.proofs.LineLaws.{both-passed, every_number, every-joined, reading, said, zero-passes, not-both}
use Rattle.extension.specs.Extension.{verdict_as, verdict_of, extension_lines}
use Rattle.icfl.specs.Icfl.{icfl_lines}
use Rattle.icfl_breaks.specs.IcflBreaks.{breaks_lines}
use Rattle.compare.specs.Compare.{compare_lines}
use Rattle.batch.specs.Batch.{records_from, uncut, batch_of, batch_with, batch_lines}
use Rattle.batch.proofs.FoldLaws.{batch-answers, Every, every-added}
use Rattle.reading.specs.Factor.{factor_lines, FactorAt}
use Rattle.numbers.specs.Numbers.{test_numbers, count_numbers, breaks_numbers, reply_of, batch_numbers, comparison_numbers}
use Rattle.exports.specs.Exports.{factor_numbers}
use Rattle.extension.specs.declared.Extension.{Extension}
use Rattle.demands.specs.Calls.{exported_behind, Reads, verdict_by, count_by, counts_by, batch_by, comparison_by}
use Rattle.demands.specs.Demand1.{Doorway, Total}
use Rattle.demands.specs.Meets.{Sound, Meets, behind-total}

-- ---- the numbers of an answer that may be given stand for it, since no line has the number 0

read_back : {A N : Type 0} (numbers : A → N) (by : N → A) (r : A) (Allowed : A → Type 0) → ((a : A) → Allowed a → by (numbers a) ≡ a)
    → Reads numbers by r Allowed → Allowed r
read_back numbers by r Allowed back h =
    let given = h.2 in
    rw (h.1 ∙ ap by given.2 ∙ back given.0 given.1) given.1

readable : (a : Says ℕ) → ¬ (a ≡ refuses 0) → count_by (count_numbers a) ≡ a
readable (gives n) h = refl
readable (refuses zero) h = absurd (h refl)
readable (refuses (suc number)) h = refl

-- no answer says 0
module _ (lines : List Line) (positive : every_number (ltb 0) lines ≡ true) where
  never-0 : {A : Type 0} (values : A) {s : Says A} → s ≡ gives values unless lines then refuses → ¬ (s ≡ refuses 0)
  never-0 values {s} e z =
      let met : Refused 0 ≡ tried lines = sym (ap checked z) ∙ said values (tried lines) e in
      not-both (sym met) (zero-passes lines positive (ap checked_number (sym met)))

  count-back : (n : ℕ) (a : Says ℕ) → a ≡ gives n unless lines then refuses → count_by (count_numbers a) ≡ a
  count-back n a e = readable a (never-0 n e)

  breaks-back : (ns : ℕ × ℕ) (a : Says (ℕ × ℕ)) → a ≡ gives ns unless lines then refuses → counts_by (breaks_numbers a) ≡ a
  breaks-back ns (gives (factors, breaks)) e = refl
  breaks-back ns (refuses zero) e = absurd (never-0 ns e refl)
  breaks-back ns (refuses (suc number)) e = refl

  comparison-back : (values : ℤ × ℕ) (a : Says (ℤ × ℕ)) → a ≡ gives values unless lines then refuses → comparison_by (comparison_numbers a) ≡ a
  comparison-back values (gives (sign, common)) e = refl
  comparison-back values (refuses zero) e = absurd (never-0 values e refl)
  comparison-back values (refuses (suc number)) e = refl

  -- L tells the verdict: it is 0 for an inverse Lyndon word alone
  test_back : (w : List ℕ) → (tried lines ≡ Passed → 0 < length w) → (a : Says (Option Extension)) → a ≡ gives (verdict_of w) unless lines then refuses
      → verdict_by (test_numbers a) ≡ a
  unfolding verdict_of
  test_back w some a e = ap (λ (x : Says (Option Extension)). verdict_by (test_numbers x)) e ∙ go (tried lines) refl ∙ sym e
    where
      verdict : (t : Bool) → is_inverse_lyndon w ≡ t → 0 < length w
          → (let v = gives (verdict_as t (failing_length w) (prefix_length w) (border_length w)) in verdict_by (test_numbers v) ≡ v)
      verdict true d s = refl
      verdict false d s =
          let positive : 0 < failing_length w = (failing-is w s (decides-false (inverse-lyndon-test w) d)).positive in
          rw (ne_eqb (failing_length w) 0 (λ z. omega (arith, positive, z))) refl

      go : (k : Checked) → tried lines ≡ k → verdict_by (test_numbers (decided k (gives (verdict_of w)) refuses)) ≡ decided k (gives (verdict_of w)) refuses
      go Passed z = verdict (is_inverse_lyndon w) refl (some z)
      go (Refused zero) z = absurd (not-both z (zero-passes lines positive (ap checked_number z)))
      go (Refused (suc number)) z = refl

-- a batch: the answer of each place
abbrev Positive : Says ℕ → Type 0
Positive s = ¬ (s ≡ refuses 0)

reread : List (Says ℕ) → List (Says ℕ)
reread places = map (λ y. count_by (y.refusal, y.count)) (map reply_of places)

places-back : (places : List (Says ℕ)) → Every Positive places → reread places ≡ places
unfolding reread
places-back [] h = refl
places-back (p ∷ places) h =
    ap (λ (a : Says ℕ). a ∷ reread places) (readable p h.0) ∙ ap (λ (t : List (Says ℕ)). p ∷ t) (places-back places h.1)

blanks-positive : (answers : List (Says ℕ)) → Every Positive answers → (n : ℕ) → Every Positive (answers ++ replicate n (gives 0))
blanks-positive [] h zero = tt
blanks-positive [] h (suc n) = ((λ e. let z : ◌≡◌ {A = ℕ} 0 1 = cc in absurd (omega arith)), blanks-positive [] tt n)
blanks-positive (a ∷ answers) h n = (h.0, blanks-positive answers h.1 n)

-- ---- behind a door

module _ (d : Doorway) (s : Sound d) where
  -- neither a line at the door nor a call's own has the number 0
  no_zero : (w : List ℕ) (own : List Line) → every_number (ltb 0) own ≡ true → every_number (ltb 0) (d.door w ++ own) ≡ true
  no_zero w own = every-joined (ltb 0) (d.door w) own (s.positive w)

  batch-back : (bytes es work pairs : List ℕ) (a : ℕ × List (Says ℕ))
      → a ≡ batch_with 0 (batch_of d.door bytes es work pairs).answers unless batch_lines es (length bytes) then (λ number. batch_with number [])
      → batch_by (batch_numbers a) ≡ a
  unfolding reread
  batch-back bytes es work pairs a e =
      let answers = (batch_of d.door bytes es work pairs).answers in
      let each : Every Positive answers = rw (batch-answers d.door bytes es work pairs)
      (every-added d.door Positive
      (λ w work pairs. never-0 _ (no_zero w (icfl_lines w (length work) (length pairs)) refl) (length (separated_icfl_ends w)) refl)
      (uncut work pairs) (records_from 0 es bytes))
      in
      ap (λ (t : List (Says ℕ)). (a.0, t)) (places-back a.1 (go (tried (batch_lines es (length bytes))) answers each e))
    where
      go : (k : Checked) (answers : List (Says ℕ)) → Every Positive answers → a ≡ decided k (batch_with 0 answers) (λ number. batch_with number [])
          → Every Positive a.1
      go Passed answers h e = rw (ap (λ (b : ℕ × List (Says ℕ)). b.1) e) (blanks-positive answers h (most_records - length answers))
      go (Refused number) answers h e = rw (ap (λ (b : ℕ × List (Says ℕ)). b.1) e) (blanks-positive [] tt most_records)

  -- from 0 to 0, the part beside a refusal is empty
  part-back : (w ps : List ℕ) (k : ℕ) (part : List ℕ) (x : ℕ × ℕ × ℕ) → part ≡ slice x.1 x.2 w → x ≡ factor_numbers (d.door w) w ps k
      → FactorAt (d.door w) w ps k part x.0
  part-back w ps k part x z e =
      let lines = d.door w ++ factor_lines w ps k in
      let numbers : ℕ × ℕ × ℕ = (0, factor_begin (ends_of ps) k, get_or (ends_of ps) k 0) in
      record {
        number_is = ap (λ (t : ℕ × ℕ × ℕ). t.0) e ∙ reading (λ (t : ℕ × ℕ × ℕ). t.0) numbers (λ number. (number, 0, 0)) (tried lines);
        part-is = z ∙ ap (λ (t : ℕ × ℕ × ℕ). slice t.1 t.2 w) e ∙ go (tried lines);
      }
    where
      go : (q : Checked)
          → (let t = decided {A = ℕ × ℕ × ℕ} q (0, factor_begin (ends_of ps) k, get_or (ends_of ps) k 0) (λ number. (number, 0, 0)) in slice t.1 t.2 w)
          ≡ decided q (slice (factor_begin (ends_of ps) k) (get_or (ends_of ps) k 0) w) (λ number. [])
      go Passed = refl
      go (Refused number) = slice_empty 0 w

  pub exported-meets : Meets d.door (exported_behind d.door)
  exported-meets = record {
    test = λ w work r work' h.
        read_back _ _ r _ (λ a f. test_back _ (no_zero w (extension_lines w (length work)) refl) w
        (λ h. (s.accepts w (both-passed (d.door w) (extension_lines w (length work)) h).0).nonempty) a f.answer) h;
    piece_cut = λ w work pairs r work' pairs' h. read_back _ _ r _ (λ a f. count-back _ (no_zero w _ refl) _ a f.answer) h;
    reasoned_cut = λ w work pairs breaks r work' pairs' breaks' h.
        read_back _ _ r _ (λ a f. breaks-back _ (no_zero w (breaks_lines w (length work) (length pairs) (length breaks)) refl) _ a f.answer) h;
    card = λ bytes es work pairs r work' pairs' h. read_back _ _ r _ (λ a f. batch-back bytes es work pairs a f.answer) h;
    strict_cut = λ w ends r ends' h. read_back _ _ r _ (λ a f. count-back _ (no_zero w _ refl) _ a f.answer) h;
    start_table = λ w out r out' h. read_back _ _ r _ (λ a f. count-back _ (no_zero w _ refl) _ a f.answer) h;
    repetitions = λ w out r out' h. read_back _ _ r _ (λ a f. count-back _ (no_zero w _ refl) _ a f.answer) h;
    comparison = λ w first end start other r h.
        read_back _ _ r _ (λ a f. comparison-back _ (no_zero w (compare_lines (length w) first end start other) refl) _ a f.answer) h;
    reader = λ w ps k part number h. part-back w ps k part (number, h.0, h.1) h.2 h.3;
    summary = λ w ps r h. h;
  }

  pub exported-total : Total (exported_behind d.door)
  exported-total =
      let total = behind-total d.door in
      record {
        test = λ w work. (_, _, (_, refl, (_, (total.test w work).2, refl)));
        piece_cut = λ w work pairs. (_, _, _, (_, refl, (_, (total.piece_cut w work pairs).3, refl)));
        reasoned_cut = λ w work pairs breaks. (_, _, _, _, (_, refl, (_, (total.reasoned_cut w work pairs breaks).4, refl)));
        card = λ bytes es work pairs. (_, _, _, (_, refl, (_, (total.card bytes es work pairs).3, refl)));
        strict_cut = λ w ends. (_, _, (_, refl, (_, (total.strict_cut w ends).2, refl)));
        start_table = λ w out. (_, _, (_, refl, (_, (total.start_table w out).2, refl)));
        repetitions = λ w out. (_, _, (_, refl, (_, (total.repetitions w out).2, refl)));
        comparison = λ w first end start other. (_, (_, refl, (_, (total.comparison w first end start other).1, refl)));
        reader = λ w ps k. let x = factor_numbers (d.door w) w ps k in (slice x.1 x.2 w, x.0, (x.1, x.2, refl, refl));
        summary = total.summary;
      }
