use mathlib.Core.Path.{sym}
use Rattle.theory.specs.Places.PairedLists.{ends-half}
use Rattle.pairs.proofs.count.Goals as goal

pub returns : goal.returns
returns c = sym (ends-half c.args.pairs.now)
