-- The orders of two words, and tests that decide.
--   Decisions       a test that is true just where a statement holds; numbers; the least number that passes a test
--   PrefixLaws, MismatchLaws, LexLaws, InverseLaws      ⊑, ≪, <ₗ and ≺, the last two as strict total orders
--   OrderTests      the tests of two words decide
--   CommonLength    how far two words agree, and how they compare there
--   SignLaws        what the sign over a range says (sign-is, sign-only)
--   WordSigns       it is the sign of two parts of the word (sign-parts)
--   CommonWithin    how far two starts of a range agree (common-within-is)
pub mod Decisions
pub mod PrefixLaws
pub mod MismatchLaws
pub mod LexLaws
pub mod InverseLaws
pub mod OrderTests
pub mod CommonLength
pub mod SignLaws
pub mod WordSigns
pub mod CommonWithin
