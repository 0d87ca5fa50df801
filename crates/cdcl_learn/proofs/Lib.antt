pub mod FreshLaws
pub mod ExplainLaws
pub mod WalkLaws
pub mod TraceLaws
pub mod LiteralTraceLaws
pub mod MarkLaws
pub mod LastLaws
