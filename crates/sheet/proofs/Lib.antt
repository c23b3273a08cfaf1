pub mod Laws
pub mod Naming
pub mod LineNumbers
pub mod LineOne
pub mod EmptyFields
pub mod Refusals
pub mod Cases
