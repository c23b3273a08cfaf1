pub mod Refusals
pub mod Ranges
pub mod Asked
pub mod FromFn
pub mod Answered
