-- No run is found, or one: it is put where it goes, and counted.
use mathlib.Core.Path.{refl}
use native.Mathlib.Omega.{arith}
use Rattle.walking.proofs.VisitLaws.{run_fits, visit-none, visit-room, visit-puts}
use Rattle.walking.proofs.visit_place.Goals as goal

pub returns-in-None : goal.returns-in-None
returns-in-None g c = visit-none c.requires.2 c.in-None.ensures

pub overflow_add-run : goal.overflow_add-run
overflow_add-run g c = let asked = c.requires in omega (arith, (run_fits asked.2 c.in-Some.found asked.0 asked.1 c.in-Some.ensures).first_fits)

pub overflow_add-run-in-Some : goal.overflow_add-run-in-Some
overflow_add-run-in-Some g c = let asked = c.requires in omega (arith, (run_fits asked.2 c.in-Some.found asked.0 asked.1 c.in-Some.ensures).end_fits)

pub put-requires : goal.put-requires
put-requires g c s =
    let asked = c.requires in
    record { room = visit-room asked.2 c.in-Some.ensures s; fits = run_fits asked.2 c.in-Some.found asked.0 asked.1 c.in-Some.ensures }

pub returns-in-Some : goal.returns-in-Some
returns-in-Some g c = visit-puts c.requires.2 c.in-Some.ensures refl c.put.ensures
