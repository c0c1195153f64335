-- THEOREMS library-demands, exported-demands: the customer's demands hold of the library's calls and of the exported functions. They hold of all calls that
-- answer and whose answers meet the promises behind a doorway that is sound (all-demands).
use Rattle.std.proofs.Common.{sym, ◌∙◌}
use Rattle.checks.specs.Lines.{record_lines}
use Rattle.demands.specs.Calls.{Calls, library, exported}
use Rattle.demands.specs.Demand1.{Doorway, record_door, Total}
use Rattle.demands.specs.Demands.{Demands}
use Rattle.demands.specs.Meets.{Sound, record-door, Meets, behind-meets, behind-total}
use Rattle.demands.specs.ExportedMeets.{exported-meets, exported-total}
use Rattle.demands.proofs.Demand1Holds.{filled-says, card-says, demand-1}
use Rattle.demands.proofs.Demand2Holds.{demand-2}
use Rattle.demands.proofs.Demand3Holds.{demand-3}
use Rattle.demands.specs.GivenExists.{given-exists}
use Rattle.demands.proofs.ReadingHolds.{part-read, summed-up}
use Rattle.demands.proofs.CardHolds.{card-answered}
use Rattle.demands.proofs.RepetitionsHold.{repetitions-listed}

pub all-demands : (d : Doorway) → Sound d → (c : Calls) → Meets d.door c → Total c → Demands d c
all-demands d s c m t = record {
  first = demand-1 d s c m t;
  second = λ w n l. demand-2 d s c m w n l;
  third = demand-3 d s c m;
  given = given-exists d s c m t;
  reader = part-read d s c m (demand-1 d s c m t);
  summary = summed-up d s c m (demand-1 d s c m t);
  card = λ bytes es work pairs work' pairs' r h e.
      let f = m.card bytes es work pairs r work' pairs' h in
      card-answered d.door s.no-four c m t bytes es work pairs work' pairs' r f (sym (card-says f) ∙ e);
  repetitions = λ w out out' r h e.
      let f = m.repetitions w out r out' h in
      repetitions-listed w (d.door w) (λ p. (s.accepts w p).nonempty) out out' r f (sym (filled-says f) ∙ e);
}

pub library-demands : Demands record_door library
library-demands = all-demands record_door record-door library (behind-meets record_lines) (behind-total record_lines)

pub exported-demands : Demands record_door exported
exported-demands = all-demands record_door record-door exported (exported-meets record_door record-door) (exported-total record_door record-door)
