pub mod TextLemmas
pub mod RunLemmas
mod PlaceLemmas
pub mod TrackLemmas
pub mod FaultLemmas
pub mod WriteLemmas
