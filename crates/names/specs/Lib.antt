pub mod Padding
pub mod Units
pub mod Names
pub mod Foldings
pub mod Keys
pub mod Order
pub mod Examples
