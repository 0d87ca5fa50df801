-- What the texts of stimuli are, and how reading and replay end.
pub mod Texts
pub mod Ends
pub mod Places
pub mod Walks
pub mod Faults
