pub mod Runs
pub mod Working
pub mod BoardWorkers
pub mod Ends
pub mod OnThreads
pub mod Laws
