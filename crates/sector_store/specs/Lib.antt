pub mod Sectors
pub mod Claims
pub mod Wholes
