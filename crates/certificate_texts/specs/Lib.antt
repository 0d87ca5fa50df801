-- What certificates are as lines spell them, and their texts.
pub mod Certificates
pub mod Writing
pub mod Adding
pub mod Taking
