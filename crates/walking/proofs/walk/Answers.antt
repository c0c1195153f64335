-- The runs of the stretches before `from` are in the list; a turn adds those of the stretch that begins there.
use mathlib.Core.Path.{refl, ◌∙◌}
use Rattle.common.proofs.InOrderLaws.{bytes}
use Rattle.walking.proofs.WalkLaws.{walk_begins, walk-asks, walk_turn, walk_ends}
use Rattle.walking.proofs.walk.Goals as goal

pub loop-from-init : goal.loop-from-init
loop-from-init g c = (refl, walk_begins _ _ _)

pub visit-count-requires : goal.visit-count-requires
visit-count-requires g c = walk-asks c.loop-from.invariant.1 c.stretch_end-end.ensures (bytes _ c.type_inv.word) c.requires c.fill_longest.ensures

pub loop-from-preserved : goal.loop-from-preserved
loop-from-preserved g c =
    let inv = c.loop-from.invariant in (
      c.fill_longest.auto.longest ∙ inv.0,
      walk_turn inv.1 c.stretch_end-end.ensures (bytes _ c.type_inv.word) c.visit-count.ensures c.visit-count.auto.runs,
    )

pub returns : goal.returns
returns g c = walk_ends c.loop-from.invariant.1 c.loop-from-test.false
