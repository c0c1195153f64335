-- Records with separators (request 103): what is made stretch by stretch. The rest of the laws: proofs/Stretches.
--   Unmarked           words without a separator
--   Separation         the shape of a record, its stretches, and what is made of them; products
--   Factors            both factorizations are divisions of the kind that is said, and the only ones; their ends rise
--   StretchBreaks      the breaks of a stretch, in the record's places
--   StretchEnds        the ends by stretches, and by the kept breaks
--   Places             letters, slices, boundaries and parts, by the first stretch
--   StretchRuns        a run of a record lies in its first stretch, or after the separator
--   SeparatedRuns      the list of runs: each, nothing else, once and in order; fewer than letters
--   TableEntries       the table's entries: as of the whole record at a letter below the separator, 1 at a separator
--   CflInSteps         the strict cut from left to right; every separator is a factor
--   FailingPrefixes    L, |p| and |r| of a word that goes on, and at a letter above its first
--   CutSteps           one step of the piece cut from left to right
--   Cuts               all of them: what the crates breaks and fates lean on
--   StrictInside       how many strict ends lie in a part; between two of them, as many as the part has alone
--   RecordPairs        the pairs of a record: what request 108 says of them (pairs-are)
--   SeparatedLimits    its first sentence fails over separators, and with letters above them
pub mod Unmarked
pub mod Separation
pub mod Factors
pub mod StretchBreaks
pub mod StretchEnds
pub mod Places
pub mod StretchRuns
pub mod SeparatedRuns
pub mod TableEntries
pub mod CflInSteps
pub mod FailingPrefixes
pub mod CutSteps
pub mod Cuts
pub mod StrictInside
pub mod RecordPairs
pub mod SeparatedLimits
