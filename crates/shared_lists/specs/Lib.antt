pub mod Knowing
pub mod Lending
pub mod Holding
