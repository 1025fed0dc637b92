pub mod Chains
pub mod Examples
pub mod Pieces
pub mod Trails
