pub mod Latches
pub mod Closed
pub mod Readable
pub mod Valid
pub mod ProofFaults
pub mod Passing
pub mod Faultless
pub mod Verdicts
pub mod Present
pub mod Over
pub mod Search
mod TableLaws
pub mod Standing
pub mod Viewed
pub mod GoingOn
