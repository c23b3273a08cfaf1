pub mod Lent
pub mod Single
pub mod Probe
