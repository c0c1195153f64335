pub mod PairedList
pub mod Pairing
