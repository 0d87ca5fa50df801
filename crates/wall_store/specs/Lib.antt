pub mod Boards
pub mod Events
pub mod Keeping
pub mod Laws
pub mod Scanning
