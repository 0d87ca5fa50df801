mod LeftLaws
pub mod ReadLaws
