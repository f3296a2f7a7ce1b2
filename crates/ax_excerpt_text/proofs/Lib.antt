pub mod FrontLaws
pub mod LookLaws
pub mod PlainNames
pub mod ReadLaws
pub mod WholeLaws
