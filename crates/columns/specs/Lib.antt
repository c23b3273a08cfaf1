pub mod Doublewords
