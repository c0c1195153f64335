use mathlib.Core.Path.{◌∙◌}
use Rattle.cfl.proofs.RoomLaws.{room-at-once}
use Rattle.cfl.proofs.check_room.Goals as goal

pub returns-then-word-entries : goal.returns-then-word-entries
returns-then-word-entries c = room-at-once _ _ c.if-word-entries.true

pub returns : goal.returns
returns c = c.check_result.ensures ∙ rw c.count_factors.ensures
