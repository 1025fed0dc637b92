pub mod ListedSectors
pub mod Filled
pub mod Changed
