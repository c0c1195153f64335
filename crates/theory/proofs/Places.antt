-- Lists of words by their places in the product. Laws that rest on what a must-fail edit changes; the others: specs/Places.
--   FirstSuffixes   places whose suffix comes before all earlier ones, and the boundaries of a list
--   EndsRise        the ends of both factorizations rise to the word's length
--   Demand3         demand 3 whole (demand-3)
pub mod FirstSuffixes
pub mod EndsRise
pub mod Demand3
