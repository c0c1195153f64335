-- The factorization into anti-Lyndon words, longest prefix first. Laws that rest on what a must-fail edit changes; the others: specs/CflIn.
--   CflInIs, CflInUnique    it is the only division of the paper's kind (cfl-in-is, cfl-in-unique)
--   CflInFirst      its starts are the places whose suffix comes before all earlier ones (cfl-in-first)
--   CflInUnfold     the recursive sentence as it stands (cfl-in-step)
pub mod CflInIs
pub mod CflInUnique
pub mod CflInFirst
pub mod CflInUnfold
