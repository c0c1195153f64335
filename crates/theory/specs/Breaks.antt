-- The breaks of the factorization into inverse Lyndon words.
--   BreaksUnfold    their recursion without its bound (breaks-whole, breaks-step)
--   BreakSteps      the walk over the word, a step for each break: how the ends come from those of the rest (step-ended), and from the breaks (steps-ends)
--   IcflBreaks      icfl-breaks: the breaks are as request 102 describes them
--   BreaksOnly      breaks-only: no other list is
pub mod BreaksUnfold
pub mod BreakSteps
pub mod IcflBreaks
pub mod BreaksOnly
