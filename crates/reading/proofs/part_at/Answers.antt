-- Past its lines a call has its ends in order and inside the record.
use mathlib.Core.Path.{sym}
use native.Mathlib.Omega.{arith}
use Rattle.words.specs.Pairs.{ends_of}
use Rattle.buffers.proofs.PartLaws.{part-is}
use Rattle.reading.proofs.FactorLaws.{Placed, placed}
use Rattle.reading.proofs.part_at.Goals as goal
use Rattle.reading.proofs.part_at.Goals.{In_ok-check_part}

placed-at : (c : In_ok-check_part) → Placed c.args.admitted.letters.now (ends_of c.args.pairs.now) c.args.number
placed-at c = placed _ _ _ (sym c.in_ok-check_part.ensures)

pub factor_from-from-requires : goal.factor_from-from-requires
factor_from-from-requires c = (placed-at (goal.at.factor_from-from-requires c).In_ok-check_part).listed

pub factor_end-end-requires : goal.factor_end-end-requires
factor_end-end-requires c = (placed-at (goal.at.factor_end-end-requires c).In_ok-check_part).listed

pub slice_bounds-result-count : goal.slice_bounds-result-count
slice_bounds-result-count c =
    omega (arith, (placed-at (goal.at.slice_bounds-result-count c).In_ok-check_part).ordered, c.factor_end-end.ensures, c.factor_from-from.ensures)

pub slice_bounds-result-start : goal.slice_bounds-result-start
slice_bounds-result-start c =
    omega (arith, (placed-at (goal.at.slice_bounds-result-start c).In_ok-check_part).ordered, c.factor_end-end.ensures, c.factor_from-from.ensures)

pub slice_bounds-result-end : goal.slice_bounds-result-end
slice_bounds-result-end c = omega (arith, (placed-at (goal.at.slice_bounds-result-end c).In_ok-check_part).inside, c.factor_end-end.ensures)

pub returns : goal.returns
returns c = record {
  number_is = rw (sym c.in_ok-check_part.ensures);
  part-is =
      rw (sym c.in_ok-check_part.ensures, ← c.factor_from-from.ensures, ← c.factor_end-end.ensures)
      (part-is c.factor_from-from.result c.factor_end-end.result c.args.admitted.letters.now);
}
