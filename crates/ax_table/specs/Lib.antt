pub mod TableAgrees
pub mod Reads
pub mod Damage
pub mod Filling
