-- What is said of the definitions of words, and that it holds.
--
--   name                          paper 01                    source 004           meaning
--   Statements
--     CflInOf                     "the only division .."      Theorem 2.1          anti-Lyndon words, none before the next one in ≺
--     BoundedExtension            L, |p|, |r|                 Definition 4.2       the sentences that fix them, a field each
--     BreaksOf                    request 102                                      what is said of the breaks, a field each
--     SignOf                      −1, 0, +1                                        what the comparison's sign says, a case each
--     SharedMost                  request 104                                      what is said of that number, by places
--     DominatedBy                                                                  every nonempty suffix of one is ≪ the other
--     BelowByBorders              request 109                                      the same said by borders
--     Demand3                     demand 3                    Corollary 7.2, 7.13  the demand's sentences, a field each
--   SeparatedStatements (request 103)
--     SeparatedOf                                                                  a division into separators and words of a kind
--     SeparatedDemand3            demand 3                                         of a record with separators
--   PairStatements
--     PairsOf                     request 108                                      what is said of the pairs, a field each
--   RunStatements (request 107)
--     Repeats, Run                repetition                                       maximal repetition: first place, end, smallest period
--     SeparatedRun                                                                 the same of a record
--
-- The laws stand in folders by subject, here or in proofs/ (its Lib says which); the file beside a folder says what is in it.
--   Orders       ⊑, ≪, <ₗ, ≺, the sign, how far words agree; tests that decide
--   Lyndon       inverse Lyndon and anti-Lyndon words; suffixes of a product
--   Icfl         the factorization into inverse Lyndon words: its factors and one step
--   Uniqueness   it is the only one of its kind
--   Breaks       the breaks of the factorization: its recursion step by step, and what is said of them
--   CflIn        the factorization into anti-Lyndon words
--   Places       lists of words by their ends; demand 3
--   Scan         what the loops of the cuts and of the test know
--   Table        the Lyndon table
--   Repetitions  runs, or maximal repetitions: the list of them, the Runs theorem, and how they are found
--   Stretches    all this of records with separators
pub mod Statements
pub mod SeparatedStatements
pub mod PairStatements
pub mod EndsStatements
pub mod RunStatements
pub mod Counterexamples
pub mod Orders
pub mod Lyndon
pub mod Icfl
pub mod Uniqueness
pub mod Breaks
pub mod CflIn
pub mod Places
pub mod Scan
pub mod Table
pub mod Repetitions
pub mod Stretches
pub mod Judging
