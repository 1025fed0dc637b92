pub mod Put
pub mod LaidOver
pub mod ThroughCopies
