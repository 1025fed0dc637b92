pub mod CodePoints
pub mod Filling
pub mod FoldedOrder
pub mod KeyFilling
pub mod Pairs
pub mod Spelling
pub mod TotalOrder
pub mod Worked
