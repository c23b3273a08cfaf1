pub mod Shifts
pub mod Extend
pub mod Fields
pub mod Signed
pub mod Residues
pub mod Products
pub mod Quotients
pub mod Exact
