pub mod Words
pub mod Sheet
