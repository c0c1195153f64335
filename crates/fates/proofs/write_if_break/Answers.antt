-- A cut beside a separator is left out; any other one is a break.
use mathlib.Core.Path.{sym, ◌∙◌}
use Prim.Native.Nat.{◌+◌, ◌≤◌}
use native.Mathlib.Omega.{arith}
use lib.ListN.{length}
use Rattle.fates.specs.Fates.{break_by}
use Rattle.fates.proofs.EntryLaws.{no-break-written, break-room, break-written}
use Rattle.fates.proofs.write_if_break.Goals as goal
use Rattle.fates.proofs.write_if_break.Goals.{Else-beside_separator}

-- the cut is a break, and its entries have room
room_at : (c : Else-beside_separator) → c.args.at + 5 ≤ length c.args.buffer.now
room_at c =
    let told = break_by c.args.word.now c.args.cut in
    break-room _ _ told _ (sym c.beside_separator.ensures ∙ c.if-beside_separator.false) c.requires.1

pub beside_separator-requires : goal.beside_separator-requires
beside_separator-requires c = let near = c.requires.0 in (omega (arith, near.forward), omega (arith, near.inside))

pub returns-then-beside_separator : goal.returns-then-beside_separator
returns-then-beside_separator c = no-break-written _ _ _ _ (sym c.beside_separator.ensures ∙ c.if-beside_separator.true)

pub fate_of-requires : goal.fate_of-requires
fate_of-requires c = c.requires.0

pub write_break-requires : goal.write_break-requires
write_break-requires c = room_at (goal.at.write_break-requires c).Else-beside_separator

pub overflow_add-result : goal.overflow_add-result
overflow_add-result c = omega (arith, room_at (goal.at.overflow_add-result c).Else-beside_separator, c.well_formed)

pub returns : goal.returns
returns c =
    let told = break_by c.args.word.now c.args.cut in
    break-written _ _ told _ (sym c.beside_separator.ensures ∙ c.if-beside_separator.false) (rw c.fate_of.ensures) c.write_break.ensures
