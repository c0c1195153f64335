-- The two kinds of words. The rest of the laws: proofs/Lyndon.
--   WordTests       the tests of Words decide (inverse-lyndon-test, anti-lyndon-test)
--   Suffixes        suffixes of a product, and domination by places
--   AntiLyndonLaws  products of anti-Lyndon words, and the longest anti-Lyndon prefix
pub mod WordTests
pub mod Suffixes
pub mod AntiLyndonLaws
