pub mod Immediates
pub mod Table
pub mod Expand
