pub mod Tickets
pub mod Passes
pub mod Turns
pub mod Rules
pub mod Seats
pub mod Shows
pub mod Hands
pub mod Keeping
