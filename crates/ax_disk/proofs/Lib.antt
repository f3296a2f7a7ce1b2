mod Effects
mod Filled
mod AddedOperation
mod Matching
