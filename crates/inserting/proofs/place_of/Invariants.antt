-- The run goes before all that are from place k on.
use Rattle.inserting.specs.Inserting.{triple}
use Rattle.inserting.proofs.Placing.{Ahead}
use Rattle.inserting.proofs.place_of.Given as goal

abbrev pub invariant-loop-k : goal.invariant-loop-k
invariant-loop-k l = Ahead l.runs l.count (triple l.run) l.k
