pub mod Alone
pub mod Asked
pub mod Ends
pub mod Kept
pub mod Missing
pub mod Parting
pub mod Unbroken
