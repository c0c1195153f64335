-- Runs, or maximal repetitions (request 107). The rest of the laws: proofs/Repetitions.
--   RisingLaws     lists in which each element has a relation to all later ones; the numbers that pass a test
--   RepeatsTo      where a period stops; a run ends there; the test for a run
--   RunsAre        the list has every run, nothing else, each once and in order (runs-sound, runs-complete, runs-rising, runs-unique)
--   RunsMap        a run stays one where letters are changed for others and kept apart (runs_map)
--   RunSuffixes    a run, the suffixes that begin in it, and the Lyndon table there
--   Roots          the anti-Lyndon word among the first places of a run
--   TwoOrders      the Lyndon tables in both orders of the letters: one of the two entries at a place is 1
--   Found          the run that is looked for at a place
--   Serving        each run is served by one place, where it is found
--   Insertion      runs put into their order one after another
pub mod RisingLaws
pub mod RepeatsTo
pub mod RunsAre
pub mod RunsMap
pub mod RunSuffixes
pub mod Roots
pub mod TwoOrders
pub mod Found
pub mod Serving
pub mod Insertion
