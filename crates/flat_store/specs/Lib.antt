pub mod Flat
pub mod Wholes
