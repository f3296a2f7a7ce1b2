pub mod Comparing
pub mod Conditions
pub mod FoundValues
pub mod Literals
pub mod Names
pub mod Operands
