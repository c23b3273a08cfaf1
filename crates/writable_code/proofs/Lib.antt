pub mod Explicit
pub mod Edges
