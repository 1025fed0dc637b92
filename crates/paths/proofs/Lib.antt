pub mod Cutting
pub mod Following
pub mod Moments
pub mod SpelledNames
pub mod Worked
