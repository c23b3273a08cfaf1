pub mod Scan
pub mod Split
pub mod Number
pub mod Write
pub mod Questions
pub mod Ascii
