pub mod ComparisonLaws
