pub mod Ends
pub mod Unbroken
