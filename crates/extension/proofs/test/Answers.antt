-- Lines 3 and 9, the verdict, then the entries that the scan used are cleared.
use mathlib.Core.Path.{◌≡◌, ap, sym, ◌∙◌}
use mathlib.Core.List.{List, []}
use Prim.Native.Nat.{ℕ}
use native.Mathlib.Omega.{arith}
use lib.ListN.{length}
use Rattle.std.specs.Prelude.{Option}
use Rattle.buffers.specs.Buffers.{cleared}
use Rattle.buffers.proofs.BufferLaws.{cleared-kept}
use Rattle.checks.specs.Lines.{tried, Passed}
use Rattle.checks.specs.Answers.{gives, refuses}
use Rattle.checks.proofs.LineLaws.{passed-up, refused, refused-first, passed_first, both-pass}
use Rattle.checks.proofs.RecordLaws.{enough}
use Rattle.extension.specs.declared.Extension.{Extension}
use Rattle.extension.specs.Extension.{extension_lines, ExtensionFound, TestRoom, Verdict}
use Rattle.extension.proofs.test.Goals as goal
use Rattle.extension.proofs.test.Goals.{In_ok-check_work}

room-at : (c : In_ok-check_work) → TestRoom c.args.admitted.letters.now c.args.work.now
room-at c =
    let accepted = c.args.admitted.accepted in
    record { nonempty = accepted.nonempty; short = accepted.short; entries = enough 3 _ _ (sym c.in_ok-check_work.ensures) }

verdict-found : {w work work₁ work₂ : List ℕ} {r : Option Extension} → tried (extension_lines w (length work)) ≡ Passed → Verdict w work r work₁
    → work₂ ≡ cleared (length w) work₁ → ExtensionFound [] w work (gives r) work₂
verdict-found {w} {work} {work₁} none v e = record {
  answer = rw none (ap (λ (x : Option Extension). gives x) v.answer);
  buffer = rw none (e ∙ cleared-kept (length w) work₁ work v.kept);
}

pub returns-in_err-check_work : goal.returns-in_err-check_work
returns-in_err-check_work c =
    let says = refused-first _ _ c.in_err-check_work.ensures in
    rw (passed-up _ c.from_residual.ensures.1) (record { answer = refused _ _ (λ (n : ℕ). refuses n) says; buffer = refused _ _ _ says })

pub returns-in_err-check_marks : goal.returns-in_err-check_marks
returns-in_err-check_marks c =
    let says = passed_first _ _ (sym c.in_ok-check_work.ensures) c.in_err-check_marks.ensures in
    rw (passed-up _ c.from_residual-in_err-check_marks.ensures.1)
    (record { answer = refused _ _ (λ (n : ℕ). refuses n) says; buffer = refused _ _ _ says })

pub extension_of-found-requires : goal.extension_of-found-requires
extension_of-found-requires c = room-at (goal.at.extension_of-found-requires c).In_ok-check_work

pub clear-requires : goal.clear-requires
clear-requires c = omega (arith, c.extension_of-found.auto, (room-at (goal.at.clear-requires c).In_ok-check_work).entries)

pub returns : goal.returns
returns c =
    verdict-found (both-pass _ _ (sym c.in_ok-check_work.ensures) (sym c.in_ok-check_marks.ensures)) c.extension_of-found.ensures c.clear.ensures
