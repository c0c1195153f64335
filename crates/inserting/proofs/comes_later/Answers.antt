-- The pairs are compared as the order of runs does.
use Rattle.inserting.specs.Inserting.{triple, run_from}
use Rattle.inserting.proofs.InsertLaws.{earlier-pair}
use Rattle.inserting.proofs.comes_later.Goals as goal

pub returns : goal.returns
returns c = let a = c.args in rw c.lt.ensures (earlier-pair (triple a.run) (run_from a.runs.now a.at))
