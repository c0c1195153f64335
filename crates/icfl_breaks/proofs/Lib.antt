pub mod BreaksCases
