pub mod Ids
pub mod Soundness
pub mod Upserts
pub mod Refusing
pub mod ByNumber
pub mod Writing
pub mod Moving
mod Repolicing
