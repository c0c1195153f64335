pub mod PairsLoop
pub mod StrictLoop
