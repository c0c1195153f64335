-- Lists of ends judged by the parts that they bound (request 109). Laws that rest on what a must-fail edit changes; the others: specs/Judging.
--   LastFactor      the border condition by the last factor of cfl_in (border-criterion)
--   Faults          the ways in which a list fails, and how many letters tell (fault-tells)
--   Judge           a judge that computes, part by part (judged_from)
--   Verdicts        what it answers is a Verdict (judge-is)
--   JudgeSteps      what its code leans on
--   PairsFit        a list of pairs by the judge and the counts of its parts (own-fit, fit-own)
pub mod LastFactor
pub mod Faults
pub mod Judge
pub mod Verdicts
pub mod JudgeSteps
pub mod PairsFit
