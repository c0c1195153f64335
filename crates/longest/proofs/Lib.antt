pub mod LongestLaws
