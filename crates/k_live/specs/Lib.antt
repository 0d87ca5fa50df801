pub mod Deciding
pub mod Asking
