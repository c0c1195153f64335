-- Runs, or maximal repetitions (request 107). Laws that rest on what a must-fail edit changes; the others: specs/Repetitions.
--   RepeatsTo      where a period stops; a run ends there; the test for a run
--   RunsAre        the list has every run, nothing else, each once and in order (runs-sound, runs-complete, runs-rising, runs-unique)
--   RunsMap        a run stays one where letters are changed for others and kept apart (runs_map)
--   RunSuffixes    a run, the suffixes that begin in it, and the Lyndon table there
--   TwoOrders      the Lyndon tables in both orders of the letters: one of the two entries at a place is 1
--   Serving        each run is served by one place, where it is found
--   RunsFewer      all runs are found so; there are fewer of them than letters (runs-fewer)
pub mod RepeatsTo
pub mod RunsAre
pub mod RunsMap
pub mod RunSuffixes
pub mod TwoOrders
pub mod Serving
pub mod RunsFewer
