-- The list passes where it is neither empty nor too long, does not fall, and its last end is the number of bytes.
use mathlib.Core.Path.{sym, ◌∙◌}
use mathlib.Core.Bool.{true≢false}
use borrow.Author.Tests.{lt-ltb}
use Rattle.conditions.proofs.RecordEndsLaws.{unlisted, too-many, unsorted, sorted}
use Rattle.conditions.proofs.faulty_record_ends.Goals as goal
use Rattle.conditions.proofs.faulty_record_ends.Goals.{then-record_ends-gt-MOST_RECORDS, else-record_ends-gt-MOST_RECORDS}

pub returns-in_default : goal.returns-in_default
returns-in_default c = unlisted _ _ c.in_default.ensures.item.3

pub returns-then-not-is_sorted : goal.returns-then-not-is_sorted
returns-then-not-is_sorted c =
    let e = c.if-not-is_sorted.true in
    rw e (elim c.if-record_ends-gt-MOST_RECORDS.branch [
      | then-record_ends-gt-MOST_RECORDS w ↦ too-many _ _ w.if-record_ends-gt-MOST_RECORDS.true
      | else-record_ends-gt-MOST_RECORDS w ↦
          unsorted _ _ _ w.if-record_ends-gt-MOST_RECORDS.false w.is_sorted.ensures.cases (sym w.value-is ∙ e)
    ])

pub returns-else-not-is_sorted : goal.returns-else-not-is_sorted
returns-else-not-is_sorted c =
    let e = c.if-not-is_sorted.false in
    elim c.if-record_ends-gt-MOST_RECORDS.branch [
      | then-record_ends-gt-MOST_RECORDS w ↦ absurd (true≢false (sym (lt-ltb _ _ w.if-record_ends-gt-MOST_RECORDS.true) ∙ sym w.value-is ∙ e))
      | else-record_ends-gt-MOST_RECORDS w ↦
          let last = c.in-Some.ensures.item in
          sorted _ _ _ _ w.if-record_ends-gt-MOST_RECORDS.false w.is_sorted.ensures.cases (sym w.value-is ∙ e) last.3.0 (last.3.1 0)
    ]
