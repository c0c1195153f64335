-- The eight letters are bytes, and their number is the library's.
use mathlib.Core.Path.{◌∙◌}
use Rattle.eights.proofs.EightLaws.{little-from}
use Rattle.eights.proofs.eight_at.Goals as goal

pub returns : goal.returns
returns c =
    let pre = c.requires in
    record { remain = pre; bytes = λ t. (c.type_inv.x t).fits; number_is = c.from_le_bytes.ensures ∙ little-from _ _ pre }
