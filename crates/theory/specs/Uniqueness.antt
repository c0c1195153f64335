-- The factorization into inverse Lyndon words is the only one of its kind.
--   DominatedUnique two dominated lists with one product are equal
--   IcflUnique      icfl-unique, icfl-infix
--   IcflUnfold      paper 01's recursive sentence as it stands (icfl-whole, icfl-step)
pub mod DominatedUnique
pub mod IcflUnique
pub mod IcflUnfold
