pub mod RootSlot
pub mod Part
pub mod LogFrame
pub mod View
pub mod Pieces
