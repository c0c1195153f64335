pub mod Walking
mod Storing
