pub mod Kinds
pub mod Offsets
pub mod Refusals
pub mod Versions
