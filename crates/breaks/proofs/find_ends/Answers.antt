-- The forward pass and the backward pass.
use Rattle.breaks.proofs.GatherLaws.{cut-found}
use Rattle.breaks.proofs.find_ends.Goals as goal

pub returns : goal.returns
returns c =
    cut-found _ _ _ _ _ _ c.find_cuts-counts.ensures c.gather_ends-first.ensures
