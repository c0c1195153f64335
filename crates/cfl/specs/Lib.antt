pub mod CflIn
