-- Records with separators (request 103): what is made stretch by stretch. Laws that rest on what a must-fail edit changes; the others: specs/Stretches.
--   Separation         the shape of a record, its stretches, and what is made of them; products
--   Factors            both factorizations are divisions of the kind that is said, and the only ones; their ends rise
--   StretchEnds        the ends by stretches, and by the kept breaks
--   StretchRuns        a run of a record lies in its first stretch, or after the separator
--   SeparatedRuns      the list of runs: each, nothing else, once and in order; fewer than letters
--   CflInSteps         the strict cut from left to right; every separator is a factor
--   SeparatedDemand3   demand 3 whole (separated-demand-3)
--   StrictInside       how many strict ends lie in a part; between two of them, as many as the part has alone
--   RecordPairs        the pairs of a record: what request 108 says of them (pairs-are)
pub mod Separation
pub mod Factors
pub mod StretchEnds
pub mod StretchRuns
pub mod SeparatedRuns
pub mod CflInSteps
pub mod SeparatedDemand3
pub mod StrictInside
pub mod RecordPairs
