pub mod NumberLoop
pub mod ListLoop
pub mod ItemLaws
pub mod PairLaws
