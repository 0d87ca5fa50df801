pub mod LiteralLaws
pub mod Soundness
pub mod LineLaws
pub mod AcceptanceLaws
mod Examples
