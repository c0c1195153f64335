pub mod Icfl
