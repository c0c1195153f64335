-- The first turn: the letter at i is anti-Lyndon, and the next entry is known.
use mathlib.Core.List.{List}
use Prim.Native.Nat.{ℕ, ◌+◌}
use native.Mathlib.Omega.{arith}
use Rattle.theory.specs.Orders.Decisions.{decides-true, decides-false}
use Rattle.theory.specs.Table.Merging.{merged-letter}
use Rattle.merging.specs.Steps.{NextKnown}
use Rattle.merging.proofs.MergeLaws.{Merging, turn-fits, turn_alone, turns-end, letter-joins, letter-stops}
use Rattle.merging.proofs.longest_at.Goals as goal

begun : {w out : List ℕ} {i next : ℕ} → NextKnown w out i next → Merging w i (i + 1) next
begun a = record { letters = a.after.letters; merged = merged-letter _ _ a.after.inside; entry = a.entry }

pub overflow_add-j-2 : goal.overflow_add-j-2
overflow_add-j-2 c = omega (arith, turn-fits (begun c.requires))

pub slice_bounds-letter_joins-end : goal.slice_bounds-letter_joins-end
slice_bounds-letter_joins-end c = omega (arith, turn-fits (begun c.requires))

pub letter_joins-requires : goal.letter_joins-requires
letter_joins-requires c = turn_alone (begun c.requires)

pub returns-then-not-letter_joins : goal.returns-then-not-letter_joins
returns-then-not-letter_joins c =
    letter-stops (begun c.requires) (decides-false c.letter_joins.ensures c.if-not-letter_joins.true)

pub returns-then-from-word : goal.returns-then-from-word
returns-then-from-word c =
    let joined = letter-joins (begun c.requires) (decides-true c.letter_joins.ensures c.if-not-letter_joins.false) in
    turns-end joined.0 joined.1 (omega (arith, c.if-from-word.true))

pub longest_from-requires : goal.longest_from-requires
longest_from-requires c =
    let joined = letter-joins (begun c.requires) (decides-true c.letter_joins.ensures c.if-not-letter_joins.false) in
    record { after = c.requires.after; below = joined.0; merged = joined.1 }
