-- The definitions of a word's two factorizations and of its runs, which a reader must believe, and examples that compute. What is said of them, and that it
-- holds, stands in the crate theory.
--
--   name                          paper 01                    source 004           meaning
--   Words
--     most_letters                4,096                                            the greatest length of a record
--     ◌≪◌                         loses at a shared byte      section 2            smaller at the first place where both differ
--     ◌⊑◌, ◌⊏◌                    beginning, proper one       section 2            prefix, proper prefix
--     ◌<ₗ◌                        natural order               Definition 2.1       lexicographic order
--     ◌≺◌                         inverse order               Definition 2.3       lexicographic order over the reversed alphabet
--     InverseLyndon               falling word                Definition 3.1       exceeds each nonempty proper suffix
--     AntiLyndon                  strict word                 Proposition 7.3      comes before each nonempty proper suffix, in ≺
--     is_inverse_lyndon, is_anti_lyndon                                            tests that decide these two
--     common_length_of                                                             longest common extension: the number of equal leading letters
--     remainder, sign             comparison                  Definition 2.4       −1, 0, +1 over a range and two starts
--     common_within               request 104                                      how many leading letters two starts share before the range ends
--   Factorizations
--     failing_length              L                           Lemma 4.8            length of the shortest failing prefix
--     border_length, prefix_length |r|, |p|                   Lemma 4.7            the bounded right extension
--     icfl, icfl_ends             piece cut                   Definition 4.3       canonical inverse Lyndon factorization
--     icfl_breaks, breaks_from    request 102                                      every step's break, with what became of it
--     cfl_in, cfl_in_ends         strict cut                  section 7.1          Lyndon factorization in ≺
--     lyndon_table                start table                                      longest anti-Lyndon word at each place
--   Separated (request 103)
--     separator, mark             mark                                             byte 255, and the factor that it is
--     stretches, between          stretches between marks                          the words around the separators; lists with something between
--     separated_icfl, separated_cfl_in, separated_table, separated_breaks          icfl, cfl_in, lyndon_table and the breaks of a record, by stretches
--   Pairs (request 108)
--     ends_inside                 strict pieces inside                             how many strict ends lie after one place and not after another
--     separated_pairs             entries of the piece cut                         each end of a record's factors with that number, in a flat list
--     ends_of, counts_of                                                           the two lists that a list of pairs is made of
--   Runs (request 107)
--     runs, is_run, repeats_to    repetition                                       maximal repetitions, by first place and then by period
--     separated_runs                                                               the same of a record, by stretches
pub mod Words
pub mod Factorizations
pub mod Separated
pub mod Pairs
pub mod Runs
pub mod Examples
pub mod SeparatedExamples
pub mod PairExamples
