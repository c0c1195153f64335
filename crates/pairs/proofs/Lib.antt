pub mod PairsLaws
pub mod PairingLaws
