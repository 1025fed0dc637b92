pub mod Freed
pub mod Pasted
pub mod Placed
pub mod NotThere
pub mod Unchanged
