pub mod Finding
pub mod Laws
pub mod Reading
pub mod Keeping
