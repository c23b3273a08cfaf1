pub mod Width
pub mod Loops
