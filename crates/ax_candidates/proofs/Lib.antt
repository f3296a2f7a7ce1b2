pub mod OfKind
pub mod OneTerm
pub mod Passing
pub mod Shared
