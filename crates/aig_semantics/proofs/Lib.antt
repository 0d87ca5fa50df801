pub mod Lassos
pub mod Checking
pub mod Lists
pub mod Values
