pub mod Pages
pub mod PageLaws
pub mod Lru
pub mod Held
