pub mod Copies
pub mod Wholes
