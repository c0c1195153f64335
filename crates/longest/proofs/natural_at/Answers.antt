-- A next letter that differs decides; else the word there does.
use native.Mathlib.Omega.{arith}
use Prim.Native.Nat.{◌+◌, ◌≤◌}
use lib.ListN.{length, get_or}
use Rattle.theory.proofs.Repetitions.TwoOrders.{longest-inside}
use Rattle.common.specs.Orders.{most_byte}
use Rattle.common.proofs.InOrderLaws.{bytes}
use Rattle.longest.proofs.LongestLaws.{next-alone, same-alone}
use Rattle.longest.proofs.natural_at.Goals as goal

pub returns-then-b-a : goal.returns-then-b-a
returns-then-b-a c =
    next-alone c.args.word.now (bytes _ c.type_inv.word) c.args.i c.requires.next c.if-b-a.true

pub bounds-word-i-3 : goal.bounds-word-i-3
bounds-word-i-3 c =
    let fits_next : c.args.i + 1 + get_or c.args.longest.now (c.args.i + 1) 0 ≤ length c.args.word.now =
    let asked = c.requires in
    rw (asked.after.entries _ (omega arith) asked.next) (longest-inside most_byte _ (bytes _ c.type_inv.word) _ asked.next).1
    in
    omega (arith, fits_next)

pub returns : goal.returns
returns c =
    let e = c.requires.after.entries (c.args.i + 1) (omega arith) c.requires.next in
    rw e (same-alone c.args.word.now (bytes _ c.type_inv.word) c.args.i c.requires.next c.if-b-a.false)
