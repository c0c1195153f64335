-- The two kinds of words. Laws that rest on what a must-fail edit changes; the others: specs/Lyndon.
--   AntiLyndonLaws  products of anti-Lyndon words, and the longest anti-Lyndon prefix
pub mod AntiLyndonLaws
