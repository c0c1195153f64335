-- THEOREM demand-2: the customer's second demand holds of all calls whose answers meet the promises behind a doorway that is sound.
use Rattle.std.specs.Prelude.{◌≡◌, List, ◌++◌, ℕ, ◌≤◌, ◌<◌, length, drop, get_or, Option, None, Some}
use Rattle.std.proofs.Math.Path.{refl}
use Rattle.std.proofs.Common.{ap, sym, ◌∙◌, arith}
use Rattle.std.proofs.Math.ListN.{length-drop}
use Rattle.words.specs.Factorizations.{longest_anti_lyndon}
use Rattle.words.specs.Separated.{separator, separated_icfl, separated_cfl_in, separated_table, separated_breaks}
use Rattle.theory.specs.Statements.{BoundedExtension}
use Rattle.theory.specs.Lyndon.AntiLyndonLaws.{longest-is, longest-positive}
use Rattle.theory.specs.Icfl.BoundedExtension.{extension-is}
use Rattle.theory.specs.Breaks.IcflBreaks.{icfl-breaks}
use Rattle.theory.specs.Breaks.BreaksOnly.{breaks-only}
use Rattle.theory.specs.Uniqueness.IcflUnfold.{icfl-whole, icfl-step}
use Rattle.theory.proofs.CflIn.CflInIs.{cfl-in-is}
use Rattle.theory.proofs.CflIn.CflInUnique.{cfl-in-unique}
use Rattle.theory.specs.Table.LyndonTableCflIn.{lyndon-table-at}
use Rattle.theory.specs.Stretches.Separation.{stretches-joined, stretches-unmarked}
use Rattle.theory.specs.Stretches.StretchBreaks.{breaks-moved}
use Rattle.theory.proofs.Stretches.RecordPairs.{pairs-entries, pairs-are}
use Rattle.theory.specs.Stretches.StretchEnds.{separated-kept-ends}
use Rattle.theory.specs.Stretches.Factors.{separated-icfl-is, separated-icfl-unique}
use Rattle.theory.proofs.Stretches.Factors.{separated-cfl-in-is, separated-cfl-in-unique}
use Rattle.theory.proofs.Stretches.CflInSteps.{separator-part}
use Rattle.theory.specs.Stretches.TableEntries.{separated-table-letter, separated-table-separator, separated-table-length}
use Rattle.buffers.specs.Buffers.{cleared}
use Rattle.checks.specs.Lines.{Line, tried, Passed}
use Rattle.checks.specs.Answers.{gives, checked, Filled, Says}
use Rattle.checks.proofs.LineLaws.{said}
use Rattle.extension.specs.Extension.{verdict_of, extension_lines, ExtensionFound}
use Rattle.extension.proofs.VerdictLaws.{fails-told, holds-told}
use Rattle.icfl.specs.Icfl.{icfl_lines, IcflDone}
use Rattle.icfl.proofs.IcflCases.{icfl-filled}
use Rattle.icfl_breaks.specs.IcflBreaks.{breaks_lines, BreaksDone}
use Rattle.extension.specs.declared.Extension.{Extension}
use Rattle.demands.specs.Calls.{Calls}
use Rattle.demands.specs.Demand1.{Doorway}
use Rattle.demands.specs.Demand2.{Gave, GavePairs, GaveBoth, Published, Demand2}
use Rattle.demands.specs.Meets.{Sound, Meets}
use Rattle.demands.proofs.Demand1Holds.{filled-says, breaks-say}
use Rattle.demands.specs.PairsHold.{own_read, own-summed}

gave : {lines : List Line} {n : ℕ} {vs buffer buffer' : List ℕ} {r : Says ℕ} → n ≡ length vs → Filled lines n vs buffer r buffer' → checked r ≡ Passed
    → Gave vs r buffer buffer'
gave {lines} z f e =
    let none : tried lines ≡ Passed = sym (filled-says f) ∙ e in
    record { count = (rw none at f.answer) ∙ ap (λ (t : ℕ). gives t) z; entries = rw none at f.result }

gave-pairs : {door : List Line} (w work pairs work' pairs' : List ℕ) (r : Says ℕ) → IcflDone door w work pairs r work' pairs' → checked r ≡ Passed
    → GavePairs w r work pairs work' pairs'
gave-pairs {door} w work pairs work' pairs' r f e =
    let none : tried (door ++ icfl_lines w (length work) (length pairs)) ≡ Passed = sym (filled-says (icfl-filled f)) ∙ e in
    record { count = rw none at f.answer; entries = rw none at f.result; zeros = rw none at f.worked }

gave-both : {door : List Line} (w work pairs breaks work' pairs' breaks' : List ℕ) (r : Says (ℕ × ℕ))
    → BreaksDone door w work pairs breaks r work' pairs' breaks' → checked r ≡ Passed → GaveBoth w r work pairs breaks work' pairs' breaks'
gave-both {door} w work pairs breaks work' pairs' breaks' r f e =
    let none : tried (door ++ breaks_lines w (length work) (length pairs) (length breaks)) ≡ Passed = sym (breaks-say f) ∙ e in
    record {
      counts = rw none at f.answer;
      pairs-are = rw none at f.pairs-are;
      breaks-are = rw none at f.breaks-are;
      zeros = rw none at f.worked;
    }

-- a test that gave a result answers the verdict, and clears its entries
verdict-is : {door : List Line} (w work work' : List ℕ) (r : Says (Option Extension)) → ExtensionFound door w work r work' → checked r ≡ Passed
    → (r ≡ gives (verdict_of w)) × (work' ≡ cleared (length w) work)
verdict-is {door} w work work' r f e =
    let lines = door ++ extension_lines w (length work) in
    let none : tried lines ≡ Passed = sym (said (verdict_of w) (tried lines) f.answer) ∙ e in
    (rw none at f.answer, rw none at f.buffer)

verdict-fails : {door : List Line} (w work work' : List ℕ) (l p r : ℕ) → 0 < length w
    → ExtensionFound door w work (gives (Some (record { failing = l; prefix = p; border = r }))) work'
    → BoundedExtension w l p r
verdict-fails w work work' l p r s f =
    let told = fails-told w s (verdict-is w work work' (gives (Some (record { failing = l; prefix = p; border = r }))) f refl).0 in
    rw (told.failing, told.prefix, told.border) (extension-is w s told.not)

published : (v : List ℕ) → 0 < length v → Published v
published v s = record {
  whole = icfl-whole v;
  step = icfl-step v s;
  extension = extension-is v s;
  considered = icfl-breaks v s;
  no_others = breaks-only v;
  factors = cfl-in-is v;
  only = cfl-in-unique v;
}

-- at a letter below the separator the entry is the longest anti-Lyndon word of the whole rest
entry_at : (w : List ℕ) (i : ℕ) → i < length w → get_or w i 0 < separator → get_or (separated_table w) i 0 ≡ longest_anti_lyndon (drop i w)
entry_at w i l h = separated-table-letter w i h ∙ lyndon-table-at w i l

module _ (d : Doorway) (sound : Sound d) (c : Calls) (m : Meets d.door c) (w : List ℕ) (s : 1 ≤ length w) where
  pub demand-2 : length w ≤ d.most → Demand2 c w
  unfolding separated_icfl separated_cfl_in separated_table separated_breaks
  demand-2 q = record {
    pieces = λ work pairs work' pairs' r h. gave-pairs w work pairs work' pairs' r (m.piece_cut w work pairs r work' pairs' h);
    counted = pairs-are w;
    two_each = pairs-entries w;
    read = own_read d.door w s (sound.lets-in w s q) c m;
    summed = own-summed d.door w s (sound.lets-in w s q) c m;
    alone = separator-part w;
    by_stretches = refl;
    divided = separated-icfl-is w;
    only_pieces = separated-icfl-unique w;
    joined = stretches-joined w;
    unmarked = stretches-unmarked w;
    published = λ v h. published v;
    falls = λ work work' h. holds-told w (verdict-is w work work' (gives None) (m.test w work (gives None) work' h) refl).0;
    fails = λ work work' l p r h. verdict-fails w work work' l p r s (m.test w work (gives (Some (record { failing = l; prefix = p; border = r }))) work' h);
    tested = λ work work' r h e. (verdict-is w work work' r (m.test w work r work' h) e).1;
    reasons = λ work pairs breaks work' pairs' breaks' r h.
        gave-both w work pairs breaks work' pairs' breaks' r (m.reasoned_cut w work pairs breaks r work' pairs' breaks' h);
    breaks_by_stretches = refl;
    places = breaks-moved;
    kept_ends = separated-kept-ends w;
    strict_pieces = λ ends ends' r h. gave refl (m.strict_cut w ends r ends' h);
    strict_by_stretches = refl;
    factors = separated-cfl-in-is w;
    only = separated-cfl-in-unique w;
    table = λ out out' r h. gave (sym (separated-table-length w)) (m.start_table w out r out' h);
    table_by_stretches = refl;
    at_mark = separated-table-separator w;
    inside = λ i l h. rw (entry_at w i l h, ← length-drop i w) (longest-is (drop i w)).upto;
    longest = λ i l h. rw (entry_at w i l h) ((longest-is (drop i w)).word (longest-positive (drop i w) (rw length-drop (omega arith))));
    no_longer = λ i n l h a b. (longest-is (drop i w)).longer n (rw (entry_at w i l h) at a) (rw length-drop b);
  }
