-- Lists of words by their places in the product. The rest of the laws: proofs/Places.
--   LinkedLaws      parts of a linked list
--   FirstSuffixes   places whose suffix comes before all earlier ones, and the boundaries of a list
--   Ends            the ends of a list are its boundaries
--   EndsRise        the ends of both factorizations rise to the word's length
--   PairedLists     lists of pairs: ends that rise, each with a count (request 108)
--   Parts           the words between neighbouring ends
--   Ranges          two suffixes over a range that ends at such a place
pub mod LinkedLaws
pub mod FirstSuffixes
pub mod Ends
pub mod EndsRise
pub mod PairedLists
pub mod Parts
pub mod Ranges
