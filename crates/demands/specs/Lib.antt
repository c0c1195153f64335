-- The customer's demands. Demand1, Demand2, Demand3 and Requests have the statements, Demands all of them; that they hold of the library's calls and of the
-- exported functions are the theorems library-demands and exported-demands (DemandsHold of proofs/).
--   Calls              the calls that they speak of: those behind the lines of a door, of which the library's and the exported functions are an instance
--   Meets              calls that meet the promises behind a door that is sound, as the library's do; ExportedMeets: the exported functions do
--   PairsHold          of such calls, reader and summary take the pairs that the piece cut wrote
--   GivenExists        for every record there is what demand 3 speaks of
--   OneCall            the library but for one call
-- The other theorems stand in proofs/: they rest on statements that a must-fail edit changes.
pub mod Calls
pub mod Demand1
pub mod Demand2
pub mod Demand3
pub mod Requests
pub mod Demands
pub mod Meets
pub mod ExportedMeets
pub mod PairsHold
pub mod GivenExists
pub mod OneCall
