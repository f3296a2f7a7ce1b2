pub mod Low
pub mod Order
