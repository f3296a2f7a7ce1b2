pub mod PairOrder
pub mod Belonging
pub mod PageLists
pub mod Sets
pub mod Changed
pub mod Rewritten
pub mod SplitOff
pub mod Leading
