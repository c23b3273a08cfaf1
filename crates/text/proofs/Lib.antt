pub mod Scanning
pub mod Splitting
pub mod LineNumbers
pub mod Numbers
pub mod Rows
pub mod Writing
pub mod RoundTrip
pub mod Asking
