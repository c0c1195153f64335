-- What is found at the places before i is in the list; a turn adds what is found at i.
use Rattle.walking.proofs.VisitLaws.{visit-begins, visit-asks, visit-turn}
use Rattle.walking.proofs.visit.Goals as goal

pub loop-i-init : goal.loop-i-init
loop-i-init g c = visit-begins c.requires

pub visit_place-total-requires : goal.visit_place-total-requires
visit_place-total-requires g c =
    let more = c.loop-i-test.true in
    (c.loop-i.invariant.after, more, visit-asks c.requires c.loop-i.invariant more)

pub loop-i-preserved : goal.loop-i-preserved
loop-i-preserved g c =
    let more = c.loop-i-test.true in
    visit-turn c.requires c.loop-i.invariant more c.visit_place-total.auto.runs
    c.visit_place-total.ensures
