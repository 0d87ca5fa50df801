pub mod States
pub mod Entries
pub mod Allowing
pub mod Skeletons
pub mod Validity
pub mod Rounds
pub mod Laws
pub mod Examples
