pub mod InRange
pub mod OneLine
pub mod LowBits
pub mod Cases
