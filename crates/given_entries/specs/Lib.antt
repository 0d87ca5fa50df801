pub mod Given
pub mod Listing
pub mod Taking
pub mod Beginning
