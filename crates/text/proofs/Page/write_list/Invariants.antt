-- The first number, then a byte and a number in each turn, the two bytes exchanged; the numbers that are left have room.
use mathlib.Core.Path.{◌≡◌}
use mathlib.Core.List.{[], ◌∷◌}
use Prim.Native.Nat.{◌+◌, ◌≤◌}
use lib.ListN.{length, drop}
use Rattle.text.specs.Text.{each_after}
use Rattle.text.proofs.Stores.{Left}
use Rattle.text.proofs.Page.write_list.Given as goal

abbrev pub invariant-loop-number : goal.invariant-loop-number
invariant-loop-number l =
    let all = each_after (l.fn.separators.first ∷ []) (l.fn.separators.second ∷ []) l.others in
    let left = each_after (l.between.first ∷ []) (l.between.second ∷ []) (drop l.number-index l.others) in
    Left l.initial.self.at all l.initial.self.out.now l.self.at left l.self.out.now
    × (l.initial.self.at + length all ≤ length l.initial.self.out.now)
    × (l.self.out.ghost_name ≡ l.initial.self.out.ghost_name)
