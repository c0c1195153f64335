-- The list is checked, and 10 refuses; otherwise each turn lends the next record, the work buffer and what is left of the result buffer to the
-- piece cut, and puts its answer into the next place.
use mathlib.Core.Path.{refl, sym, ◌∙◌}
use native.Mathlib.Omega.{arith}
use Rattle.buffers.proofs.PartLaws.{rest-length}
use Rattle.checks.proofs.LineLaws.{passed-up}
use Rattle.checks.proofs.RecordLaws.{accepted}
use Rattle.batch.proofs.Cutting.{used-few, batch-refused, cutting-starts, cutting-ends, record-from, record-end, lent-on, lent-room}
use Rattle.batch.proofs.icfl_batch.Goals as goal

pub returns-in_err-check_record_ends : goal.returns-in_err-check_record_ends
returns-in_err-check_record_ends c = rw (passed-up _ c.from_residual.ensures.1) (batch-refused _ _ _ _ _ c.in_err-check_record_ends.ensures)

pub loop-i-init : goal.loop-i-init
loop-i-init c = (cutting-starts _ _ _ _ _ (sym c.in_ok-check_record_ends.ensures), refl, refl)

pub slice_bounds-icfl-count : goal.slice_bounds-icfl-count
slice_bounds-icfl-count c = omega (arith, record-from c.loop-i.invariant.0 c.loop-i-test.true)

pub slice_bounds-icfl-start : goal.slice_bounds-icfl-start
slice_bounds-icfl-start c = omega (arith, record-from c.loop-i.invariant.0 c.loop-i-test.true)

pub slice_bounds-icfl-end : goal.slice_bounds-icfl-end
slice_bounds-icfl-end c = omega (arith, record-end c.loop-i.invariant.0 c.loop-i-test.true)

pub entries_used-used-requires : goal.entries_used-used-requires
entries_used-used-requires c = used-few (accepted _) c.icfl-answer.ensures

pub overflow_add-used : goal.overflow_add-used
overflow_add-used c =
    omega (arith, c.well_formed, lent-room c.loop-i.invariant.0 c.icfl-answer.ensures c.entries_used-used.ensures c.icfl-answer.auto.pairs)

pub loop-i-preserved : goal.loop-i-preserved
loop-i-preserved c =
    let g = c.loop-i.invariant in (
      lent-on g.0 c.loop-i-test.true c.icfl-answer.result c.icfl-answer.ensures c.entries_used-used.ensures,
      c.icfl-answer.auto.work ∙ g.1,
      rest-length _ _ c.icfl-answer.new.pairs g.0.room c.icfl-answer.auto.pairs ∙ g.2,
    )

pub returns : goal.returns
returns c =
    cutting-ends c.loop-i.invariant.0 (sym c.in_ok-check_record_ends.ensures) c.loop-i-test.false
