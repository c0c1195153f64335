-- The walk goes from border to shorter border as long as the next letter is below the letter at the end; along the borders the next letters do not fall.
use native.Mathlib.Omega.{arith}
use Prim.Native.Nat.{◌-◌}
use Rattle.theory.specs.Scan.Scanned.{Scanned}
use lib.ListN.{get_or}
use Rattle.extension.proofs.ScanLaws.{walk-starts, entry, walk-further, walk-found, walk_none}
use Rattle.extension.proofs.shortest_border.Goals as goal

pub loop-border-init : goal.loop-border-init
loop-border-init c = walk-starts _ _ _ _ c.requires

pub bounds-table-border : goal.bounds-table-border
bounds-table-border c =
    omega (arith, c.loop-border.invariant.border.shorter, c.requires.inside, c.requires.entries)

pub overflow_cast-next : goal.overflow_cast-next
overflow_cast-next c = omega (arith, (c.shared_slice_known-in-loop-border-1.given (c.loop-border.border - 1)).fits)

pub bounds-word-next : goal.bounds-word-next
bounds-word-next c =
    let entry_at : (Scanned c.args.word.now c.loop-border.border (get_or c.args.table.now (c.loop-border.border - 1) 0)) =
    entry c.args.word.now c.args.table.now _ _ c.requires _ c.loop-border.invariant c.loop-border-test.true
    in
    omega (arith, (entry_at).shorter, c.loop-border.invariant.border.shorter, c.requires.inside)

pub returns-then-new-word : goal.returns-then-new-word
returns-then-new-word c =
    walk-found c.args.word.now c.args.table.now _ _ c.requires _ c.loop-border.invariant c.loop-border-test.true c.if-new-word.true

pub loop-border-smaller : goal.loop-border-smaller
loop-border-smaller c =
    let entry_at : (Scanned c.args.word.now c.loop-border.border (get_or c.args.table.now (c.loop-border.border - 1) 0)) =
    entry c.args.word.now c.args.table.now _ _ c.requires _ c.loop-border.invariant c.loop-border-test.true
    in
    (entry_at).shorter

pub loop-border-preserved : goal.loop-border-preserved
loop-border-preserved c =
    walk-further c.args.word.now c.args.table.now _ _ c.requires _ c.loop-border.invariant c.loop-border-test.true c.if-new-word.false

pub returns : goal.returns
returns c = walk_none _ _ _ _ c.requires _ c.loop-border.invariant c.loop-border-test.false
