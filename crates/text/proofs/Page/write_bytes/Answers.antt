use mathlib.Core.Path.{refl}
use Rattle.text.proofs.Stores.{wrote-part}
use Rattle.text.proofs.Page.write_bytes.Goals as goal

pub returns : goal.returns
returns c = record { same = refl; text = wrote-part _ _ _ _ c.copy_from_slice.ensures.after c.requires.inside }
