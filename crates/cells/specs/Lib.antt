pub mod Words
pub mod Chains
pub mod Rules
pub mod Maps
pub mod Repeats
