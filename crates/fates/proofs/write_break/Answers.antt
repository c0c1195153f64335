-- Three numbers, then the fate's two.
use native.Mathlib.Omega.{arith}
use lib.ListN.{length-set}
use Rattle.fates.proofs.EntryLaws.{kept-stored, joined-stored}
use Rattle.fates.proofs.write_break.Goals as goal

pub bounds-buffer-at-2 : goal.bounds-buffer-at-2
bounds-buffer-at-2 c = simp length-set (omega arith)

pub bounds-buffer-at-3 : goal.bounds-buffer-at-3
bounds-buffer-at-3 c = simp length-set (omega arith)

pub bounds-buffer-at-in-Kept : goal.bounds-buffer-at-in-Kept
bounds-buffer-at-in-Kept c = simp length-set (omega arith)

pub bounds-buffer-at-in-Kept-2 : goal.bounds-buffer-at-in-Kept-2
bounds-buffer-at-in-Kept-2 c = simp length-set (omega arith)

pub bounds-buffer-at-in-Joined : goal.bounds-buffer-at-in-Joined
bounds-buffer-at-in-Joined c = simp length-set (omega arith)

pub bounds-buffer-at-in-Joined-2 : goal.bounds-buffer-at-in-Joined-2
bounds-buffer-at-in-Joined-2 c = simp length-set (omega arith)

pub returns-in-Kept : goal.returns-in-Kept
returns-in-Kept c =
    kept-stored c.args.buffer.now c.args.at c.args.b _ _ c.in-Kept.is

pub returns-in-Joined : goal.returns-in-Joined
returns-in-Joined c =
    joined-stored c.args.buffer.now c.args.at c.args.b _ c.in-Joined.is
