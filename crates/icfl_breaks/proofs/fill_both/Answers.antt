-- Both lines are tried by the numbers of factors and of breaks; past them both lists have room.
use mathlib.Core.Path.{◌≡◌, refl, ap, sym, ◌∙◌}
use mathlib.Core.List.{List}
use Prim.Native.Nat.{ℕ, ◌<◌}
use native.Mathlib.Omega.{arith}
use lib.ListN.{length}
use Rattle.words.specs.Separated.{separated_icfl_ends}
use Rattle.buffers.proofs.PartLaws.{part, part-is}
use Rattle.checks.proofs.LineLaws.{passed-up, refused-first, passed_first, both-pass}
use Rattle.checks.proofs.RecordLaws.{enough}
use Rattle.breaks.specs.declared.Found.{Found}
use Rattle.breaks.proofs.GatherLaws.{breaks-fewer}
use Rattle.icfl_breaks.specs.IcflBreaks.{CutsKnown}
use Rattle.icfl_breaks.proofs.BreaksCases.{both-refused, both-written}
use Rattle.icfl_breaks.proofs.fill_both.Goals as goal

ends-are : {w work : List ℕ} {found : Found} → CutsKnown w work found → part found.first (length w) work ≡ separated_icfl_ends w
ends-are {w} {work} {found} x = part-is found.first (length w) work ∙ x.ends

fewer : {w work : List ℕ} {found : Found} → CutsKnown w work found → found.breaks < length w
fewer {work = work} x = breaks-fewer {work = work} (record {
  inside = x.inside;
  ends = x.ends;
  count = x.count;
  noted = x.noted;
  breaks = x.breaks;
  kept = refl;
})

pub returns-in_err-check_result : goal.returns-in_err-check_result
returns-in_err-check_result c =
    let says = rw (c.entries.ensures, ap length (ends-are c.requires)) at c.in_err-check_result.ensures in
    rw (passed-up _ c.from_residual.ensures.1) (both-refused _ _ _ (refused-first _ _ says))

pub overflow_mul-counts : goal.overflow_mul-counts
overflow_mul-counts c = omega (arith, fewer c.requires, c.requires.room.short)

pub returns-in_err-check_result-2 : goal.returns-in_err-check_result-2
returns-in_err-check_result-2 c =
    let first = rw (c.entries.ensures, ap length (ends-are c.requires)) at (sym c.in_ok-check_result.ensures) in
    let says = rw c.requires.breaks at c.in_err-check_result-2.ensures in
    rw (passed-up _ c.from_residual-in_err-check_result-2.ensures.1) (both-refused _ _ _ (passed_first _ _ first says))

pub write_pairs-requires : goal.write_pairs-requires
write_pairs-requires c = record {
  short = c.requires.room.short;
  right = ends-are c.requires;
  entries = omega (arith, c.entries.ensures, enough 4 _ _ (sym c.in_ok-check_result.ensures));
}

pub write_breaks-requires : goal.write_breaks-requires
write_breaks-requires c =
    let known = c.requires in
    record {
      room = known.room;
      inside = known.inside;
      ends = known.ends;
      count = known.count;
      noted = known.noted;
      breaks = known.breaks;
      entries = enough 4 _ _ (sym c.in_ok-check_result-2.ensures);
    }

pub returns : goal.returns
returns c =
    let first = rw (c.entries.ensures, ap length (ends-are c.requires)) at (sym c.in_ok-check_result.ensures) in
    let second = rw c.requires.breaks at (sym c.in_ok-check_result-2.ensures) in
    both-written _ _ _ (both-pass _ _ first second) (ap length (ends-are c.requires)) c.requires.breaks c.write_pairs.ensures c.write_breaks.ensures
