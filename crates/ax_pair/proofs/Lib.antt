pub mod PairOrder
pub mod Lows
