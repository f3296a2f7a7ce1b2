pub mod Damage
pub mod Documents
pub mod Opening
