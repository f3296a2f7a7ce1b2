pub mod Different
pub mod Exchanges
pub mod Net
pub mod Owned
