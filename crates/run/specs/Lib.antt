pub mod End
