-- The later runs stand a place on, and the new one is written at its place.
use mathlib.Core.Path.{◌∙◌}
use Rattle.inserting.proofs.InsertLaws.{run-stored}
use Rattle.inserting.proofs.Placing.{run-inserted}
use Rattle.inserting.proofs.insert.Goals as goal

pub returns : goal.returns
returns c =
    rw c.copy_within.ensures.after
    (run-stored _ _ _ _ _ ∙ run-inserted _ _ _ _ c.requires.room c.place_of-at.ensures)
