-- That the demands hold, and that they shut out all other libraries.
--   .. Holds           the theorem of one demand or request, of all such calls
--   DemandsSuffice     the converse: what meets the demands meets the promises, so nothing else does; AnswersTold, CardTold and ComparisonTold are its parts
--   Careless           paper 01's careless cutters, and the demand that shuts each of them out
--   CarelessReasons    cuts with breaks that are careless, likewise
--   CarelessComparing  ends, a comparison and stretches that demand 3 shuts out
--   CarelessMarks      cuts, tests and comparisons that are careless of marks, likewise
--   CarelessCards      calls that are careless of cards, likewise
--   CarelessRuns       calls that are careless of repetitions, likewise
--   CarelessPairs      cuts, readers and summaries that are careless of pairs, likewise
--   CarelessReading    readers and summaries that are careless of what they give, likewise
--   CarelessBuffers    cuts and tests that are careless of the lent buffers, likewise
pub mod Demand1Holds
pub mod Demand2Holds
pub mod Demand3Holds
pub mod ReadingHolds
pub mod CardHolds
pub mod RepetitionsHold
pub mod DemandsHold
pub mod AnswersTold
pub mod CardTold
pub mod ComparisonTold
pub mod DemandsSuffice
pub mod Careless
pub mod CarelessReasons
pub mod CarelessComparing
pub mod CarelessMarks
pub mod CarelessCards
pub mod CarelessRuns
pub mod CarelessPairs
pub mod CarelessReading
pub mod CarelessBuffers
