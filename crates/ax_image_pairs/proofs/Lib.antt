pub mod Beside
pub mod Exchanged
pub mod Made
pub mod Carried
pub mod Standing
pub mod Finding
