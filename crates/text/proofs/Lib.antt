pub mod Stores
pub mod Decimals
pub mod DecimalIs
pub mod Texts
pub mod Readers
pub mod ReaderKinds
pub mod ListReaders
