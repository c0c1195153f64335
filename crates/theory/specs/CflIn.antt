-- The factorization into anti-Lyndon words, longest prefix first. The rest of the laws: proofs/CflIn.
--   CflInUnfold     the recursive sentence as it stands (cfl-in-step)
pub mod CflInUnfold
